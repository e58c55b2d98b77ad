pub mod FieldLemmas
pub mod FormLemmas
pub mod HeadingLemmas
pub mod LaneLemmas
pub mod LineLemmas
pub mod PartLemmas
