-- Definitions that only private contracts and the invariant cite.
pub mod Cores
pub mod Reads
pub mod Stores
