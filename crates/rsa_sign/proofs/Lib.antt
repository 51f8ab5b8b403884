pub mod KeyLemmas
pub mod LawLemmas
pub mod MessageLemmas
pub mod PowerLemmas
