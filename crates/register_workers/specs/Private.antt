-- Definitions that only private contracts cite.
pub mod Requests
pub mod Running
pub mod Seating
pub mod Seats
