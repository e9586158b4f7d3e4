pub mod Answers
pub mod EntrySums
pub mod Products
pub mod Rows
pub use Rattle.cvl_base.specs.Descriptors
pub use Rattle.cvl_base.specs.Gives
pub use Rattle.cvl_base.specs.Limits
