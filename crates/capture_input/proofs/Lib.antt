pub mod Joined
pub mod PartLemmas
pub mod StatusLemmas
