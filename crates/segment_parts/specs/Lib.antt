pub mod Behinds
pub mod Calls
pub mod Carries
pub mod CheckedSums
pub mod Parts
pub mod ReduceCalls
pub mod Reduces
