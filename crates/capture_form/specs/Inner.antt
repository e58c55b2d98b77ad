pub mod LineRead
pub mod Progress
pub mod Reader
pub mod Stated
pub mod Words
