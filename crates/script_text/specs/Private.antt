-- Definitions that only private contracts cite.
pub mod Cursors
pub mod Tallies
