pub use Rattle.cvl_base.specs.Calls
pub use Rattle.cvl_base.specs.Limits
pub use Rattle.cvl_base.specs.Values
pub mod Arguments
pub mod Held
pub mod Names
pub mod Operands
pub mod Shared
