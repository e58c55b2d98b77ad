mod Scans
pub mod RulesLemmas
mod TakeLemmas
