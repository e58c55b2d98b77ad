pub mod LineLemmas
pub mod EntryLemmas
pub mod JudgeLemmas
pub mod LaneLemmas
pub mod WaitLemmas
