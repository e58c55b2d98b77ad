pub mod Ranges
pub mod Routable
