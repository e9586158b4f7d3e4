pub mod Evenly
pub mod Pairs
pub mod Places
pub mod Starts
pub mod White
