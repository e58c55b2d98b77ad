pub mod Text
pub mod Played
pub mod Examples
