pub mod Frames
pub mod Ports
pub mod Wrapping
pub mod Inner
