-- The walk from the leaves that change hands up to the root, level by level. Each level falls: the right one of two siblings comes first.
use Rattle.std.specs.Prelude.{ℕ, zero, suc, ◌+◌, ◌*◌, ◌/◌, ◌^◌, ◌<◌, ◌==◌, ◌||◌, List, [], ◌∷◌, ◌++◌, Option, None, Some, if◌then◌else◌}
use Rattle.group_terms.specs.LeafMarks.{Marked as LeafMarked}
use Rattle.group_terms.specs.Positions.{some_leaf_below}
use Rattle.key_tree.specs.declared.marks.Renewed.{Renewed}

-- a position of the tree that has one above it
abbrev pub IsBelowRoot : ℕ → Renewed → Type 0
IsBelowRoot depth one = (1 < one.id) × (one.id < 2 ^ (depth + 1))

-- the other child of the position above
abbrev pub sibling : ℕ → ℕ
sibling v = if v == 2 * (v / 2) then 2 * (v / 2) + 1 else 2 * (v / 2)

-- what is found out of the position above two siblings
abbrev pub joined : Renewed → Renewed → Renewed
joined one other = record { id = one.id / 2; held = one.held || other.held; stayed = one.stayed || other.stayed }

-- where these leaves have somebody before the batch
module _ (held : LeafMarked) where
  -- what is found out of a position that the batch does not renew: each who has a leaf there or below it stays
  abbrev pub left_alone : ℕ → Renewed
  left_alone v = record { id = v; held = some_leaf_below held.depth held.leaves v; stayed = some_leaf_below held.depth held.leaves v }

  -- what is found out of the position above one whose sibling is not renewed
  abbrev pub above_one : Renewed → Renewed
  above_one one = joined one (left_alone (sibling one.id))

  -- the positions above those of a level, where one that came before them may still have its sibling among them
  abbrev pub above : Option Renewed → List Renewed → List Renewed
  above None [] = []
  above (Some one) [] = above_one one ∷ []
  above None (next ∷ rest) = above (Some next) rest
  above (Some one) (next ∷ rest) = if one.id / 2 == next.id / 2 then joined one next ∷ above None rest else above_one one ∷ above (Some next) rest

  -- the root, which is renewed in any case
  abbrev pub top : List Renewed → Renewed
  top [] = left_alone 1
  top (root ∷ rest) = root

  -- the positions of a level and of all above it, so many
  abbrev pub levels : ℕ → List Renewed → List Renewed
  levels zero level = top level ∷ []
  levels (suc steps) level = level ++ levels steps (above None level)
