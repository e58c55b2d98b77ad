pub mod TextLemmas
mod FrameLemmas
mod PartLemmas
pub mod CaptureLemmas
