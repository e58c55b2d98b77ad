pub mod Inner
pub mod Plain
