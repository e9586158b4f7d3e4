pub mod ExactCombines
