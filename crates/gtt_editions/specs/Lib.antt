pub mod Editions
pub mod Published
pub mod Shown
pub mod Standing
pub mod Marked
pub mod Rule
