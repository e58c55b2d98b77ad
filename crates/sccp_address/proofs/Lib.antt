pub mod DigitLemmas
pub mod TitleLemmas
pub mod ResultLemmas
pub mod SpellingLaw
