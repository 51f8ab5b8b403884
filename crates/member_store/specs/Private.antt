-- Definitions that only private contracts cite.
pub mod Dues
pub mod Openings
pub mod Paths
