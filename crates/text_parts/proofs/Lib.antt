mod Numbered
pub mod Pieced
mod Taken
