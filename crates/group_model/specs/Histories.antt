-- What contracts see of a `History`.
use Rattle.std.specs.Prelude.{ℕ, List}
use Rattle.group_terms.specs.declared.changes.Change.{Change}

-- the depth of the tree, and its batches as a plain list
pub record Batches : Type 0 where
  pub depth : ℕ
  pub batches : List (List Change)
