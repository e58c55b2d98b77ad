pub mod PlanLemmas
pub mod GoneLemmas
pub mod TurnLemmas
pub mod RowLemmas
mod Sent
