pub mod Shares
pub use Rattle.cvl_base.specs.Descriptors
pub use Rattle.cvl_base.specs.Gives
pub use Rattle.cvl_base.specs.Limits
pub use Rattle.cvl_base.specs.Nests
pub mod Starts
