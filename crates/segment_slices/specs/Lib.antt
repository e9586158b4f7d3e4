pub mod Pairs
pub mod Slices
