pub mod Causes
pub mod Decimal
pub mod Devices
pub mod Giving
pub mod References
pub mod Streams
pub mod Inner
