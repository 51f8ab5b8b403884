mod BatchLemmas
mod BesideLemmas
mod ChangeLemmas
mod CreateLemmas
mod DatagramLemmas
pub mod FitLemmas
mod GoesLemmas
mod GroupLemmas
mod JournalLemmas
mod LookLemmas
mod OpenLemmas
mod PairLemmas
mod ReopenLemmas
pub mod RepliedLemmas
mod ReplyLemmas
mod SasLemmas
mod SeenLemmas
mod SentLemmas
mod ServedLemmas
mod SessionLemmas
mod StillLemmas
mod StoredLemmas
pub mod WaitLemmas
