pub mod Joined
mod Named
mod Ones
pub mod BySegments
mod Meaning
mod Owned
pub mod Cited
