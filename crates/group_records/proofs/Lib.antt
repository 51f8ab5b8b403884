pub mod HighLemmas
pub mod ManyLemmas
pub mod OnceLemmas
pub mod RecordFacts
pub mod WrittenLemmas
