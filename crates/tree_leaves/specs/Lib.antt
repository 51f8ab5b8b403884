pub mod Fresh
pub mod Places
pub mod Unchanged
