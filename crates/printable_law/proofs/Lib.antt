pub mod FormWords
pub mod Fields
pub mod Outputs
pub mod Headings
pub mod Stamps
pub mod Print
pub mod FormReading
pub mod Back
pub mod Lists
pub mod Spelling
pub mod Reading
pub mod Messages
pub mod Addresses
pub mod Routing
pub mod Management
mod Sections
mod Steps
pub mod Connections
pub mod Units
mod Sending
pub mod UnitJournals
mod Effects
pub mod Journals
mod Words
mod Requests
mod Changes
pub mod Heads
mod Lines
pub mod Captures
mod Frames
pub mod Streams
mod Counting
mod Placing
pub mod Books
mod Writing
pub mod Printable
pub mod Stamping
