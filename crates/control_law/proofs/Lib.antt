pub mod Splitting
pub mod Playing
