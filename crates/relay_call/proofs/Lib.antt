pub mod OutcomeLemmas
pub mod StopLemmas
pub mod CommandLemmas
