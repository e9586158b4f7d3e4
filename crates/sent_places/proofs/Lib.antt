pub mod Sent
pub mod Stored
