pub mod Command
pub mod Reads
