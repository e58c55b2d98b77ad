pub mod Counts
pub mod Generator
pub mod Text
pub mod Inner
