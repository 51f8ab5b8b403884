-- What private functions promise each other. No public contract cites these.
pub mod Asks
pub mod Cuts
pub mod Follows
pub mod Mail
pub mod Openings
pub mod Reports
pub mod Runs
pub mod Theres
