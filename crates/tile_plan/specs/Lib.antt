pub mod Pieces
pub mod Ranges
