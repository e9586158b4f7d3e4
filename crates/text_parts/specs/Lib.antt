pub mod Pieces
pub mod Places
pub mod Rooms
