pub mod FitLemmas
pub mod PeerLemmas
pub mod TakeLemmas
pub mod DrawnFacts
