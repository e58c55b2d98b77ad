pub mod Audit
pub mod Inner
