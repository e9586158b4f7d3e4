pub mod Crews
pub mod Facts
pub mod Pieces
