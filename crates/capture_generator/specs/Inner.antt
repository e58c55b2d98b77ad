pub mod Digits
pub mod Tally
