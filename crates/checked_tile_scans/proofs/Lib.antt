pub mod FirstWithout
pub mod Outsides
pub mod SegmentTotals
pub mod TileFronts
pub mod WholeSums
pub mod WideSums
pub mod Cited
