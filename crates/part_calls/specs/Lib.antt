pub mod CombineRanges
pub mod CountedRanges
pub mod Limits
pub mod Pieces
pub mod Ranges
pub mod SenderRanges
pub mod Sums
pub mod TransposeRanges
