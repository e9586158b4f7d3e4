pub mod CombiningPermutes
pub mod Walks
