pub mod DecimalTexts
pub mod Lengths
pub mod NestWalk
pub mod PartWalk
pub mod SegmentWalk
pub mod Spaces
