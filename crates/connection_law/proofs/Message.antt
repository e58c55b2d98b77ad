-- The proof of the law of the messages that carry data.
pub mod Plain
pub mod Exchanging
pub mod Acting
pub mod Hearing
pub mod Waiting
pub mod Answering
pub mod Leaving
pub mod Sent
pub mod Along
