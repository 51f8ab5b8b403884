pub mod Openings
pub mod Prepares
pub mod Private
pub mod Stands
pub mod Stored
pub mod Views
