pub mod Moments
pub mod Pairs
pub mod Passes
pub mod Private
