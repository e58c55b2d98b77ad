pub mod Own
pub mod Placed
pub mod Heads
pub mod Editions
pub mod Lanes
pub mod Right
