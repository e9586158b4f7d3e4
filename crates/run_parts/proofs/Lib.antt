pub mod Behinds
pub mod InSegments
pub mod Lasts
pub mod PartRuns
pub mod Ranges
pub mod Written
