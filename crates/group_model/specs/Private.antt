-- Definitions that only private contracts and invariants cite: what the code keeps, and the steps by which it goes. No public clause
-- needs them.
pub mod Handovers
pub mod Rows
pub mod Suits
pub mod Trees
