-- The proof of the law of the local references.
pub mod Ends
pub mod Acting
pub mod Settling
pub mod Step
pub mod Following
