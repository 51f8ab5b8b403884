pub mod Drawn
pub mod Private
pub mod Replies
