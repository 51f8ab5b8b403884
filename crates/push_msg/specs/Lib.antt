pub mod Digests
pub mod Private
pub mod Pushes
pub mod Readings
pub mod Texts
pub mod Written
