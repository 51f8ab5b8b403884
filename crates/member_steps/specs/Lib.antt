pub mod Acts
pub mod Drawn
pub mod Keys
pub mod Mails
pub mod Members
pub mod Private
pub mod Steps
pub mod Views
