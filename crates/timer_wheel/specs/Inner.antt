pub mod Tree
pub mod Turning
