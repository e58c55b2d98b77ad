pub mod AskLemmas
pub mod LineForms
pub mod StepLemmas
