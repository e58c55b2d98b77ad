pub mod ConnSeats
pub mod Phases
pub mod LaneStates
pub mod Shown
pub mod Turns
pub mod Rows
