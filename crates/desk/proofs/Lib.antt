pub mod Sums
pub mod Keeps
pub mod Steps
pub mod Meetings
pub mod TurnFacts
