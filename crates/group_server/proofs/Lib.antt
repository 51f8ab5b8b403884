pub mod AcceptLemmas
pub mod JudgeLemmas
pub mod LawLemmas
pub mod ServeLemmas
pub mod SessionLemmas
pub mod SoundLemmas
