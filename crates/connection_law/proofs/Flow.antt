-- The proof of the law of what flows: the windows of class 3, and what leaves in class 2.
pub mod Ends
pub mod Taking
pub mod Flowing
pub mod Acting
pub mod Hearing
pub mod Leaving
pub mod Asking
pub mod Step
pub mod Opening
pub mod Following
pub mod Sending
pub mod Counts
pub mod Growing
pub mod Going
pub mod Ordering
