pub mod Reading
pub mod Seen
