mod Merging
mod Ranges
mod RowsInTwo
mod Slicing
