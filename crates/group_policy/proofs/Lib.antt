pub mod JudgementLemmas
pub mod JudgementFacts
