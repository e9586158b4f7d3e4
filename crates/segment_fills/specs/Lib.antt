pub mod Calls
pub mod Fills
pub mod Numbers
