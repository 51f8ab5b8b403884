pub mod MomentFacts
pub mod PairLemmas
pub mod SeatLemmas
pub mod StepLemmas
