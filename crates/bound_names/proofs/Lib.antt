pub mod Resolved
mod TakenBack
