pub mod BoundNames
pub mod NestedInputs
pub mod ReadInputs
pub mod ResultKinds
pub mod Texts
