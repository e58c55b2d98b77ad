pub mod Book
pub mod Inner
pub mod Print
