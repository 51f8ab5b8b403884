pub mod LastLemmas
pub mod ReplyLemmas
