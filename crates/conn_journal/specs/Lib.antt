pub mod Lanes
pub mod Laws
pub mod Outcomes
pub mod Inner
