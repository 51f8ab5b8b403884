pub mod HexLemmas
pub mod LineFacts
pub mod LineLemmas
pub mod SoakFacts
pub mod SoakLemmas
pub mod SoakTextLemmas
pub mod SummaryFacts
pub mod WordLemmas
