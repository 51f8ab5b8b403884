pub mod LentLemmas
pub mod NameLemmas
pub mod NotedLemmas
pub mod PeerLemmas
pub mod StepLemmas
pub mod PeerFacts
