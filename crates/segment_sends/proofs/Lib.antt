pub mod AllSent
pub mod Lengths
pub mod OneSegment
pub mod Pushed
pub mod Ranges
pub mod Scatters
pub mod Shared
pub mod Through
