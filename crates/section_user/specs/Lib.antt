pub mod Inner
pub mod Lengths
pub mod Side
