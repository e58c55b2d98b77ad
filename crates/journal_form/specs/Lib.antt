pub mod Form
pub mod Headings
pub mod Inner
pub mod Outputs
pub mod Parts
pub mod Stamps
pub mod Words
