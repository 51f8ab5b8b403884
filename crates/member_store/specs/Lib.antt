pub mod Private
pub mod Steps
pub mod Stores
pub mod Takings
