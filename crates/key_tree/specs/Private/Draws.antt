-- The positions that a batch renews, by the marks of the leaves that change hands.
use Rattle.std.specs.Prelude.{ℕ, ◌==◌, ◌||◌, Bool, List}
use Rattle.std.specs.List.{filter, range_with_len}
use Rattle.group_terms.specs.Positions.{some_leaf_below}

-- the root, and each position at or above a marked leaf
abbrev pub is_renewed : ℕ → List Bool → ℕ → Bool
is_renewed depth leaves v = v == 1 || some_leaf_below depth leaves v

-- those of them from a position on, so many
abbrev pub renewed_from : ℕ → List Bool → ℕ → ℕ → List ℕ
renewed_from depth leaves first count = filter (is_renewed depth leaves) (range_with_len first count)
