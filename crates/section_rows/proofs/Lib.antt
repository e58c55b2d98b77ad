pub mod Showing
pub mod Alone
