mod CrashFacts
pub mod MediumLemmas
pub mod TornLemmas
