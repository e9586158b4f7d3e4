pub mod Answered
pub mod Cuts
pub mod Entries
pub mod RowLengths
pub mod Totals
pub mod Within
pub mod Cited
