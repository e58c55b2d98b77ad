mod After
mod Free
mod Gone
mod Heard
mod Keeps
mod Over
mod Seated
mod Apart
mod HeardAt
mod NewSeats
mod Used
mod Slotted
mod Given
mod Sides
pub mod Standing
pub mod Ticked
mod Found
mod Opened
mod LaneGrows
mod Became
mod Hears
mod Quiet
mod Reached
pub mod Puts
mod Wakes
mod Counted
pub mod Sleeping
