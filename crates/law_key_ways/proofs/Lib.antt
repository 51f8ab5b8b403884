pub mod FewLemmas
pub mod GivenLemmas
pub mod LeafLemmas
pub mod MarkLemmas
pub mod StepLemmas
pub mod WayLemmas
