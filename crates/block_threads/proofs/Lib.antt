pub mod BesideLemmas
pub mod EachLemmas
