pub use Rattle.permute_walks.specs.Marks
pub use Rattle.permute_walks.specs.Senders
