pub mod InSegments
pub mod OnBytes
pub mod Replaced
