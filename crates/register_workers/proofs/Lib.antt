mod BlockLemmas
mod CrashLemmas
mod EachLemmas
mod FewLemmas
mod GiveLemmas
mod LineLemmas
mod LookLemmas
pub mod OwnLemmas
pub mod PassingLemmas
mod RunLemmas
mod SeatLemmas
mod SeatingLemmas
mod SharedLemmas
mod TurnLemmas
