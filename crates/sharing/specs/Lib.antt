pub mod Races
pub mod Shares
pub mod Thresholds
