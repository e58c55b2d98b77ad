pub mod Coming
pub mod Kept
pub mod Mails
pub mod Queues
pub mod Taking
