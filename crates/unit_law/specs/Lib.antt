pub mod Together
pub mod Short
pub mod SegmentLaw
pub mod SpellingLaw
pub mod OwnOutputs
pub mod Played
