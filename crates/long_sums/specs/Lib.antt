pub mod LongSums
pub mod LongLaws
pub mod LongFolds
pub mod RoomSums
