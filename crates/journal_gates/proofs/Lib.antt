pub mod AnswerLemmas
pub mod CallLemmas
pub mod GateLemmas
pub mod GatedMoments
