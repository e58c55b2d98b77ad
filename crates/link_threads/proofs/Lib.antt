pub mod PairLemmas
pub mod DealLemmas
pub mod FeedLemmas
pub mod RunLemmas
pub mod FeederLemmas
pub mod CloseLemmas
