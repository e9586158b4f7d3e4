pub mod Backs
pub mod FlatIndices
pub mod SegmentPermutes
pub use Rattle.permute_walks.specs.Indices
