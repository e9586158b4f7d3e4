pub mod BoundNames
pub mod Faults
pub mod NestedScripts
pub mod Outcomes
