pub mod Fits
pub mod Laws
pub mod Pairs
pub mod Private
