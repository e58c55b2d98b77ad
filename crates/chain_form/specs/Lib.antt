pub mod Chain
pub mod Inner
pub mod Line
