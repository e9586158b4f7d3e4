pub mod Before
pub mod Indices
pub mod Marks
pub mod OneWalk
pub mod Senders
pub use Rattle.cvl_base.specs.Limits
pub use Rattle.cvl_base.specs.Permutes
