pub mod Gates
pub mod Heads
