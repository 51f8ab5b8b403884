pub mod ArrayLemmas
pub mod DrawnLemmas
pub mod KnownLemmas
pub mod OneLemmas
pub mod PairLemmas
