pub mod SegmentDestinations
pub mod Shares
pub use Rattle.permute_walks.specs.Senders
