pub mod FindingLaw
pub mod Examples
