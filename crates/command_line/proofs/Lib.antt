pub mod Cvl
pub mod Defaults
pub mod Options
pub mod Cited
