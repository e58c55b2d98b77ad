pub mod Shortening
pub mod Routed
pub mod Inner
