pub mod Placing
pub mod Timed
pub mod Wheels
