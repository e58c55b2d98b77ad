pub mod EditionLemmas
pub mod PendingLemmas
pub mod PlacingLemmas
