pub mod Groups
pub mod Reads
pub mod Roots
