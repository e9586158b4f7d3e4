pub mod Counts
pub mod Marks
pub mod Ranges
