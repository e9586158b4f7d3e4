pub mod Arguments
pub mod Comments
pub mod DigitLanes
pub mod NumberWalk
pub mod TokenWalk
pub mod Cited
