pub mod Drafts
pub mod Seen
