pub mod Answering
pub mod Leasts
