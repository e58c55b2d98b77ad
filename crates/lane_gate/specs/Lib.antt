pub mod Gates
pub mod Passes
pub mod Plan
pub mod Inner
