pub mod TextLaw
pub mod LengthLaw
pub mod SequenceLaw
pub mod Generated
pub mod OneBook
pub mod Sequential
