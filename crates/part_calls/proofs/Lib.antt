pub mod Carried
pub mod Checked
pub mod Placed
pub mod Cited
