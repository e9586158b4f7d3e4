pub mod InputFaults
pub mod TokenPlaces
