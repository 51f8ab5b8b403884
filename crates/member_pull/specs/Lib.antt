pub mod Fits
pub mod Paths
pub mod Pulls
pub mod Shown
pub mod Views
