pub mod DueFacts
pub mod GroupLemmas
pub mod MakeLemmas
pub mod OneGroup
pub mod ReplayLemmas
pub mod StoreLemmas
