pub mod Counted
pub mod Found
pub mod Ownership
pub mod Parts
pub mod Places
pub mod Rooms
