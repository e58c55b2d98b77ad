pub mod Nameless
pub mod Pointers
pub mod Taking
