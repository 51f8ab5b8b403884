pub mod Marks
pub mod Present
pub mod Private
