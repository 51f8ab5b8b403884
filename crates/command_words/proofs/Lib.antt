pub mod AcceptedLemmas
pub mod ProgramFacts
pub mod RowLemmas
pub mod StepLemmas
pub mod WordLemmas
