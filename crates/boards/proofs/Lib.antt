pub mod Moves
pub mod Telling
pub mod Dealing
pub mod Ending
pub mod Walking
pub mod Cited
