pub mod Views
pub mod Sound
pub mod Openings
pub mod Duos
pub mod Inner
