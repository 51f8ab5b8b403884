pub mod Lent
pub mod Peers
pub mod Private
pub mod Pulls
pub mod Steps
