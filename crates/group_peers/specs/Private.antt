-- Definitions that only private contracts cite.
pub mod Lent
pub mod Places
pub mod Told
