pub mod EditionLemmas
pub mod PublishedLemmas
pub mod RuleKeeps
pub mod SameChanges
