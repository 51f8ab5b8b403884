-- Definitions that only private contracts cite. No public clause needs them.
pub mod Heads
pub mod Seen
pub mod Views
