mod Placing
mod Wheels
mod Woken
mod Wakings
pub mod Sent
