pub mod Cells
pub mod Reference
pub mod Flow
pub mod Message
pub mod Timer
