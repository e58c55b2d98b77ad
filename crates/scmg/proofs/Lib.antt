pub mod JournalLemmas
pub mod KnownLemmas
pub mod TestLemmas
pub mod Sent
