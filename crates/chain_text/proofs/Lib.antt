pub mod LineLemmas
mod WriteLemmas
