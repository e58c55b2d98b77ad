pub mod Items
pub mod Inner
