pub mod FirstStarts
pub mod Paired
pub mod Told
pub mod WhitePlaces
