pub mod ByLengths
pub mod Combines
pub mod CombineSums
pub mod Keys
pub mod Runs
