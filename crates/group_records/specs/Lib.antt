pub mod Fits
pub mod Readings
pub mod Records
pub mod Texts
