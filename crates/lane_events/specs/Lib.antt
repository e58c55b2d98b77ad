pub mod Editions
pub mod Pending
pub mod Placing
