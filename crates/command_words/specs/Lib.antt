pub mod Commands
pub mod Inner
