pub mod Follow
pub mod Fourths
pub mod Stores
