pub mod Acts
pub mod Cutting
pub mod Within
