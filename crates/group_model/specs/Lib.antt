-- Which leaf is whose, and which keys are new, are definitions of the leaves alone.
pub use Rattle.tree_leaves.specs.Fresh
pub use Rattle.tree_leaves.specs.Places
pub mod Answers
pub mod Derivations
pub mod Drawn
pub mod Growth
pub mod Histories
pub mod Indexes
pub mod LastChanges
pub mod Laws
pub mod Private
pub mod Refusals
pub mod Replies
pub mod Seen
pub mod Servers
pub mod Stayed
pub mod Wraps
