pub mod Audit
pub mod AuditLaw
pub mod Input
pub mod Stops
