-- Batches whose values are those of the positions for which they draw some.
use Rattle.std.specs.Prelude.{◌≡◌, ◌⊎◌, ℕ, ◌+◌, ◌<◌, true, List, [], ◌∷◌, ◌++◌, length, Some}
use Rattle.std.specs.Option.{unwrap_or}
use Rattle.group_terms.specs.declared.changes.Change.{Change}
use Rattle.group_terms.specs.declared.values.NodeValue.{NodeValue}
use Rattle.group_values.specs.Values.{Made, batches_made, ids_of, last_value, node_value}
use Rattle.group_model.specs.Drawn.{drawn_at, is_held_below}
use Rattle.group_model.specs.Fresh.{last_change}
use Rattle.group_model.specs.Places.{holders_of}

-- after other batches, one after the other
abbrev pub AreDrawnFrom : ℕ → List (List Change) → List Made → Type 0
AreDrawnFrom depth before [] = Unit {0}
AreDrawnFrom depth before (made ∷ list) =
    (ids_of made.values.nodes ≡ drawn_at depth (before ++ made.changes ∷ []) (length before + 1)) × AreDrawnFrom depth (before ++ made.changes ∷ []) list

-- batches from the first one on, each with the values of the positions for which it draws some
abbrev pub AreDrawn : ℕ → List Made → Type 0
AreDrawn depth list = AreDrawnFrom depth [] list

-- the root after some batch, and each position below which a member has a leaf
abbrev pub IsInUse : ℕ → List Made → ℕ → Type 0
IsInUse depth list v = ((v ≡ 1) × (0 < length list)) ⊎ (is_held_below depth (holders_of depth (batches_made list)) v ≡ true)

-- the last value of a position is the one that its last change drew
pub record IsLastDrawn (depth : ℕ) (list : List Made) (v : ℕ) : Type 0 where
  pub value : NodeValue
  pub last : last_value list v ≡ Some value
  pub drawn : node_value list v (unwrap_or (last_change depth (batches_made list) (length list) v) 0) ≡ Some value
