pub mod Order
pub mod Timers
pub mod Inner
