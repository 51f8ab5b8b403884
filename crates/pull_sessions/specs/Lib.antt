pub mod Builds
pub mod Fits
pub mod Looks
pub mod Private
pub mod Sessions
pub mod Shown
