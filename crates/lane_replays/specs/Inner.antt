pub mod Soonest
