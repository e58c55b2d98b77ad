pub mod HearingLaw
pub mod TurnLaw
pub mod Played
pub mod SideBySide
