-- Definitions that only private contracts cite.
pub mod Afters
pub mod Begun
pub mod Boards
pub mod Dues
pub mod Kept
pub mod Lefts
pub mod Lendings
pub mod Mailed
pub mod Noted
pub mod Places
pub mod Ran
pub mod Reading
pub mod Sends
pub mod Turned
