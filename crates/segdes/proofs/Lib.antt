pub mod Checked
pub mod ListRuns
pub mod Searched
pub mod Sums
pub mod Cited
