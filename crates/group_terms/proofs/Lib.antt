pub mod BelowLemmas
pub mod LeafMarkLemmas
pub mod MarkLemmas
pub mod NameLemmas
pub mod ShortOctetsLemmas
