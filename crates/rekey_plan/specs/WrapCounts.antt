-- How many encryptions a batch sends (group-oriented rekeying of Wong, Gouda and Lam).
use Rattle.std.specs.Prelude.{◌≡◌, ℕ, ◌+◌, ◌-◌, ◌*◌, ◌^◌, ◌≤◌, true, List, [], ◌∷◌, ◌++◌, length}
use Rattle.group_terms.specs.Names.{Name}
use Rattle.group_terms.specs.declared.changes.Change.{Change}
use Rattle.group_terms.specs.declared.changes.Change.TheVariants.{Out}
use Rattle.group_model.specs.Places.{IsValid, holders_of, is_member, member_count}
use Rattle.group_model.specs.Wraps.{node_wraps, wraps_at}

-- two for the root and for each position between it and a changed leaf, and one for the traffic key
abbrev pub most_wraps : ℕ → ℕ → ℕ
most_wraps depth changes = 2 * ((depth - 1) * changes + 1) + 1

-- A batch after a valid list encrypts no more than its changes bound.
abbrev pub WrapsAreFew : Type 0
WrapsAreFew =
    (depth : ℕ) (batches : List (List Change)) (batch : List Change) → IsValid depth batches
    → length (wraps_at depth (batches ++ batch ∷ []) (length batches + 1)) ≤ most_wraps depth (length batch)

-- a batch takes this member out of a tree of which each leaf is taken
pub record IsRemovalFromFull (depth : ℕ) (batches : List (List Change)) (m : Name) : Type 0 where
  pub some : 1 ≤ depth
  pub valid : IsValid depth batches
  pub full : member_count (holders_of depth batches) ≡ 2 ^ depth
  pub member : is_member (holders_of depth batches) m ≡ true

-- Each new key on the way up is encrypted under the keys of both children, the lowest under that of the other leaf alone; and the traffic key under the
-- root's.
abbrev pub RemovalsWrapTwice : Type 0
RemovalsWrapTwice =
    (depth : ℕ) (batches : List (List Change)) (m : Name) → IsRemovalFromFull depth batches m
    → (length (node_wraps depth (batches ++ (Out m ∷ []) ∷ []) (length batches + 1)) ≡ 2 * depth - 1)
    × (length (wraps_at depth (batches ++ (Out m ∷ []) ∷ []) (length batches + 1)) ≡ 2 * depth)
