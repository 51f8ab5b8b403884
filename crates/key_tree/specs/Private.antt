-- Definitions that only private contracts and invariants cite.
pub mod Draws
pub mod Levels
pub mod Lowest
pub mod Outcomes
pub mod Presents
pub mod Seats
