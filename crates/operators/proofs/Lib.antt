pub mod ExactFolds
pub mod Flooring
pub mod FoldLaws
pub mod Wrapping
