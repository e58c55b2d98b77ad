pub mod CountLemmas
pub mod LegalLemmas
pub mod TakingLemmas
pub mod MatterLemmas
