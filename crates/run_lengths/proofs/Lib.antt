pub mod Counted
pub mod Fronts
pub mod InSegments
mod Parted
mod Walked
