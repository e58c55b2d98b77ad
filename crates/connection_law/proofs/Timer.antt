-- The proof of the law of the timers.
pub mod Running
pub mod Firing
pub mod Resting
pub mod Quiet
pub mod Openings
