pub mod AttributeLemmas
pub mod OctetLemmas
pub mod PlacedLemmas
pub mod PolicyFacts
pub mod WrittenLemmas
