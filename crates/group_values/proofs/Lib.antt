pub mod DrawingLemmas
pub mod KeepingLemmas
pub mod SearchLemmas
