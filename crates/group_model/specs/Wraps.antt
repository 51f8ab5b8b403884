-- The encryptions that a batch sends, by key names (group-oriented rekeying of Wong, Gouda and Lam, in the form that they give for a
-- leave; RFC 6407 section 5.6.3).
use Rattle.std.specs.Prelude.{ℕ, zero, suc, ◌+◌, ◌-◌, ◌*◌, ◌^◌, ◌<◌, Bool, true, false, List, [], ◌∷◌, ◌++◌, map, if◌then◌else◌}
use Rattle.std.specs.List.{filter, flat_map}
use Rattle.group_terms.specs.Positions.{some_leaf_below}
use Rattle.group_terms.specs.declared.changes.Change.{Change}
use Rattle.group_terms.specs.declared.keys.KeyName.{KeyName}
use Rattle.group_terms.specs.declared.keys.KeyName.TheVariants.{Node, Traffic, Phase}
use Rattle.group_terms.specs.declared.keys.Wrap.{Wrap}
use Rattle.group_model.specs.Places.{holders_at}
use Rattle.group_model.specs.Fresh.{is_fresh, node_name}
use Rattle.group_model.specs.Stayed.{kept_leaves, stayed_at}

-- the numbers from n down to 1
abbrev pub falling : ℕ → List ℕ
falling zero = []
falling (suc n) = suc n ∷ falling n

module _ (depth : ℕ) (batches : List (List Change)) (epoch : ℕ) where
  -- the children of v below which somebody stands who stayed
  abbrev pub kept_children : ℕ → List ℕ
  kept_children v = filter (some_leaf_below depth (kept_leaves (holders_at depth batches (epoch - 1)) (holders_at depth batches epoch))) (2 * v ∷ (2 * v + 1) ∷ [])

  -- the new key of v under the key that each of them has
  abbrev pub wraps_of : ℕ → List Wrap
  wraps_of v = map (λ child. record { by = node_name depth batches epoch child; gives = Node v epoch }) (kept_children v)

  -- those of all fresh inner positions, from the last one up to the root, under the left child's key before the right one's
  abbrev pub node_wraps : List Wrap
  node_wraps = flat_map wraps_of (filter (is_fresh depth (holders_at depth batches (epoch - 1)) (holders_at depth batches epoch)) (falling (2 ^ depth - 1)))

  -- and last the traffic key under the root; none where nobody stayed
  unfoldable pub wraps_at : List Wrap
  wraps_at = if stayed_at depth batches epoch then node_wraps ++ record { by = Node 1 epoch; gives = Traffic epoch } ∷ [] else []

-- whether nothing is encrypted
abbrev pub is_nil : List Wrap → Bool
is_nil [] = true
is_nil (wrap ∷ wraps) = false

-- a key is that of a position below a number
abbrev pub IsOfPosition : ℕ → KeyName → Type 0
IsOfPosition bound (Node id made) = id < bound
IsOfPosition bound (Traffic made) = ⊥
IsOfPosition bound (Phase member) = ⊥

-- an encryption of such a key under such a key
abbrev pub IsBetween : ℕ → Wrap → Type 0
IsBetween bound wrap = IsOfPosition bound wrap.by × IsOfPosition bound wrap.gives
