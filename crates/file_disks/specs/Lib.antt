pub mod FileLaws
pub mod FileMedia
pub mod Views
