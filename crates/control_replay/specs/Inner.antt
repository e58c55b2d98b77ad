pub mod Counts
pub mod Lanes
