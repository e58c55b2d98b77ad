pub mod Windows
pub mod Flow
pub mod Held
