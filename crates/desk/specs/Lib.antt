pub mod Calls
pub mod Opened
pub mod Plays
pub mod Seats
pub mod Turned
pub mod Turns
pub mod Views
