pub mod FitLemmas
pub mod HeaderLemmas
pub mod IndexLemmas
pub mod LookLemmas
pub mod SaLemmas
pub mod SessionFacts
