pub mod Crashes
pub mod Private
pub mod Records
pub mod Views
