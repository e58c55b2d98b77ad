pub mod CallerCounts
pub mod PassLists
pub mod TurnKeeps
