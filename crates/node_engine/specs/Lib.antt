pub mod Running
pub mod Barriers
