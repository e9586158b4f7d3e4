pub mod FirstWithout
pub mod InPlace
pub mod LeastFaults
pub mod Cited
