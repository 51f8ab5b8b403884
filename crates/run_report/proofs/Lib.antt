pub mod ErrorLemmas
pub mod KnownLemmas
