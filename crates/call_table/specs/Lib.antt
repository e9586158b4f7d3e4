pub mod Calls
pub mod Letters
pub mod Operators
pub mod Spellings
