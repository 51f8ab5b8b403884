pub mod DraftLemmas
pub mod OpeningLemmas
pub mod PushFacts
pub mod PushLemmas
pub mod RowLemmas
pub mod TextLemmas
pub mod WrittenLemmas
