pub mod Ascending
pub mod JoinedCounts
pub mod OwnTold
pub mod Zeros
