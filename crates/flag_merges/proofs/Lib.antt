pub mod BySegments
pub mod Counted
mod Merged
mod Packed
