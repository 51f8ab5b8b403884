-- What is always known of a key tree.
use Rattle.std.specs.Prelude.{◌≡◌, ℕ, ◌+◌, ◌^◌, ◌≤◌, List, length, map, Option, is_none, is_some}
use Rattle.group_terms.specs.LeafMarks.{Marked as LeafMarked}
use Rattle.group_values.specs.Values.{Kept}
use Rattle.group_model.specs.declared.indexes.NameIndex.{NameIndex}
use Rattle.group_model.specs.Indexes.{IsIndexOf}
use Rattle.group_model.specs.Places.{Holders}

-- It is 1 to 9 deep, and has a holder for each leaf and a last change and a value for each number up to that of the last leaf. It has marks of the leaves
-- that somebody has and of those that nobody has, and an index of names.
pub record IsPresent (depth : ℕ) (holders : Holders) (made : List (Option ℕ)) (kept : Kept) (held free : LeafMarked) (index : NameIndex) : Type 0 where
  pub shallow : 1 ≤ depth
  pub not_deep : depth ≤ 9
  pub leaves : length holders ≡ 2 ^ depth
  pub positions : length made ≡ 2 ^ (depth + 1)
  pub room : length kept.nodes ≡ 2 ^ (depth + 1)
  pub marked : held ≡ record { depth = depth; leaves = map is_some holders }
  pub unmarked : free ≡ record { depth = depth; leaves = map is_none holders }
  pub indexed : IsIndexOf holders index
