pub mod Inner
pub mod Replaying
pub mod Tables
