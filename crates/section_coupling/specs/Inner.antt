pub mod Acts
pub mod Idle
pub mod Comings
pub mod Alone
pub mod Sizes
pub mod Wishes
