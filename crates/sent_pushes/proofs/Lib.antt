pub mod LawLemmas
pub mod NoteLemmas
