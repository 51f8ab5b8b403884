pub mod Groups
pub mod Private
pub mod Replays
pub mod Views
