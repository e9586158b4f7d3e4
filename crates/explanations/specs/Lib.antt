pub mod ArgumentLines
pub mod Bindings
pub mod Explained
