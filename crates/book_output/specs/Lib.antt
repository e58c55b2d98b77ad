pub mod Sending
pub mod Inner
pub mod Print
pub mod PrintLaw
pub mod Report
