pub mod FirstSenders
pub mod Walks
