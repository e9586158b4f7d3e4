pub mod Ends
pub mod Hosts
pub mod LineRuns
pub mod LinesLeft
pub mod Meaning
pub mod MemSinks
pub mod Sinks
pub mod StopTexts
