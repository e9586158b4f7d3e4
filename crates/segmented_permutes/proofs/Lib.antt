pub mod Backed
pub mod FlatIndices
pub mod Flattened
pub mod Gathers
pub mod Joined
pub mod Listed
pub mod Runs
pub mod Whole
