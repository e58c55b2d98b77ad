pub mod DeviceLemmas
pub mod DigitLemmas
pub mod GivingLemmas
pub mod Numerals
