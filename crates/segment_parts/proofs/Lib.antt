pub mod BehindEach
pub mod Carried
pub mod CheckedScanned
pub mod Scanned
pub mod StartSums
pub mod Starts
