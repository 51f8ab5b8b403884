pub mod ListingFacts
pub mod ReplayLemmas
