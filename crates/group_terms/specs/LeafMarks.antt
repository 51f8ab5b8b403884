-- What contracts see of marks on the leaves of a tree.
use Rattle.std.specs.Prelude.{ℕ, Bool, List}

-- how deep the tree is, and a mark for each leaf, by rising leaf
pub record Marked : Type 0 where
  pub depth : ℕ
  pub leaves : List Bool
