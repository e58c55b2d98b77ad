pub mod Parameters
pub mod Transfers
pub mod Reading
pub mod Steps
pub mod Standing
