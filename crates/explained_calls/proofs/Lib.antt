pub mod LineLaws
mod PlacedWalk
pub mod ShownWalk
mod TextRead
