pub mod Pairs
pub mod Links
pub mod Gates
pub mod Phases
