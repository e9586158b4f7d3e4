pub mod Parts
pub mod SegmentStarts
