mod FrameLemmas
pub mod LineLemmas
pub mod WritingLemmas
