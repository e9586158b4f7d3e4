mod Cuts
pub mod FaultNames
mod LinePuts
mod PutInParts
mod Underway
pub mod Shown
