pub mod Flagged
pub mod OpenSegments
pub mod RangeScans
pub mod SumsOfTiles
pub mod Telling
pub mod WrittenParts
pub mod Cited
