pub mod Inner
pub mod Print
