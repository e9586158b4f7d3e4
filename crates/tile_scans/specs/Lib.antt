pub mod TiledSums
pub mod Told
pub mod Written
