pub mod References
pub mod Following
pub mod Handing
pub mod ReadLengths
pub mod ReadWithin
pub mod InRanges
pub mod ArriveWithin
