pub mod Control
pub mod Lane
pub mod Inner
