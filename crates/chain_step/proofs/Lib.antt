pub mod Running
pub mod Journals
