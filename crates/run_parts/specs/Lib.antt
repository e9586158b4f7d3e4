pub mod Calls
pub mod Counts
pub mod Places
pub mod Puts
pub mod Runs
