pub mod Adding
pub mod Rows
pub mod Translation
pub mod Inner
