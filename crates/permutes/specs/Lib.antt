pub mod FlatPermutes
pub mod Ways
pub use Rattle.permute_walks.specs.Before
pub use Rattle.permute_walks.specs.Indices
pub use Rattle.permute_walks.specs.Senders
