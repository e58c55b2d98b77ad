pub mod Lanes
pub mod Entries
pub mod Finding
