pub mod Calls
pub mod CheckedSums
pub mod Cuts
pub mod OwnRooms
pub mod RoomJoins
