-- Definitions that only private contracts cite.
pub mod Standings
pub mod Told
