pub mod OneLink
pub mod Note
pub mod Streams
pub mod Inner
