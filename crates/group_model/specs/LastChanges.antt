-- The last change of each position, as a list by their numbers.
use Rattle.std.specs.Prelude.{ℕ, ◌+◌, ◌^◌, ◌==◌, ◌||◌, Bool, false, List, length, map, slice_index_or, Option, None, Some, if◌then◌else◌}
use Rattle.std.specs.List.{range_with_len}
use Rattle.group_terms.specs.declared.changes.Change.{Change}
use Rattle.group_model.specs.Fresh.{last_change}

-- the last change of each number up to that of the last leaf
abbrev pub changes_at : ℕ → List (List Change) → ℕ → List (Option ℕ)
changes_at depth batches epoch = map (last_change depth batches epoch) (range_with_len 0 (2 ^ (depth + 1)))

-- the root and each marked position change in this epoch
abbrev pub renewed_at : ℕ → List (Option ℕ) → List Bool → ℕ → Option ℕ
renewed_at epoch made marks v = if v == 1 || slice_index_or marks v false then Some epoch else slice_index_or made v None

abbrev pub renewed : ℕ → List (Option ℕ) → List Bool → List (Option ℕ)
renewed epoch made marks = map (renewed_at epoch made marks) (range_with_len 0 (length made))
