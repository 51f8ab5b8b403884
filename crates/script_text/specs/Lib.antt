pub mod Lines
pub mod Numbers
pub mod Private
pub mod Report
pub mod Soak
pub mod Summary
pub mod Words
pub mod Written
