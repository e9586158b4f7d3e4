pub mod Lowest
pub mod LeastSteps
pub mod LeastMoves
pub mod Ending
pub mod LeastEnding
pub mod Claiming
pub mod Dealing
pub mod Cited
