pub mod MarkPlaces
pub mod Passed
