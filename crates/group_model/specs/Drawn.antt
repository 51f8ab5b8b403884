-- The positions for whose new keys a batch draws values.
use Rattle.std.specs.Prelude.{ℕ, ◌+◌, ◌-◌, ◌^◌, ◌==◌, ◌&&◌, ◌||◌, Bool, List, map, is_some}
use Rattle.std.specs.List.{filter, range_with_len}
use Rattle.group_terms.specs.Positions.{some_leaf_below}
use Rattle.group_terms.specs.declared.changes.Change.{Change}
use Rattle.group_model.specs.Fresh.{is_fresh}
use Rattle.group_model.specs.Places.{Holders, holders_at}

-- whether a member stands below a position
abbrev pub is_held_below : ℕ → Holders → ℕ → Bool
is_held_below depth holders v = some_leaf_below depth (map is_some holders) v

-- That no value is drawn for a key that nobody would have is our choice; the root, which is fresh in every batch, has one even so.
abbrev pub is_drawn : ℕ → Holders → Holders → ℕ → Bool
is_drawn depth before after v = is_fresh depth before after v && (v == 1 || is_held_below depth after v)

-- by rising position
abbrev pub drawn_at : ℕ → List (List Change) → ℕ → List ℕ
drawn_at depth batches epoch =
    filter (is_drawn depth (holders_at depth batches (epoch - 1)) (holders_at depth batches epoch)) (range_with_len 1 (2 ^ (depth + 1) - 1))
