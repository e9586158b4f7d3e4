pub mod Senders
pub use Rattle.cvl_base.specs.Limits
pub use Rattle.cvl_base.specs.Permutes
