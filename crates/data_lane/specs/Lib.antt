pub mod Legal
pub mod Inner
