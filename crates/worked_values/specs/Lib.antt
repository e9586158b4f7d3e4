pub mod OnSegments
pub mod Segmented
pub mod Shared
pub mod Written
