mod ColumnRuns
mod Moved
mod Shapes
pub mod Sources
