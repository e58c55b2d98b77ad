mod DigitLemmas
mod TallyLemmas
pub mod CaptureLemmas
pub mod StepLemmas
