pub mod Inner
pub mod Windows
