pub mod CallLemmas
pub mod PieceLemmas
pub mod StageFacts
