pub mod Private
pub mod WrapCounts
