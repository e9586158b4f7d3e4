pub mod AllPieces
pub mod Crews
pub mod Facts
pub mod Left
pub mod Pieces
