mod Found
mod Faults
mod BySegments
mod Meaning
pub mod Cited
