pub mod Rules
pub mod Format
pub mod Reading
pub mod Writing
pub mod Parts
pub mod Inner
