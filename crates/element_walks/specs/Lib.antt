pub use Rattle.cvl_base.specs.Elementwise
pub use Rattle.cvl_base.specs.Gives
pub use Rattle.cvl_base.specs.Limits
