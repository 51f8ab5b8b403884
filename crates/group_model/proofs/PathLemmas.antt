-- The way from a leaf up to the root.
use Rattle.std.proofs.Common.{◌≡◌, ℕ, zero, suc, ◌+◌, ◌*◌, ◌/◌, ◌^◌, ◌<◌, ◌≤◌, List, [], ◌∷◌, ◌++◌, Option, Some, None, length, sym, ap, ◌∙◌, subst, arith, inl, inr, add-one}
use Rattle.std.specs.Prelude.{MatchOption, IfSome, ◌==◌, if◌then◌else◌}
use Rattle.std.proofs.lemmas.Bool.{cases_lt, ne_eqb, eq-eqb, false≢true}
use Rattle.std.proofs.lemmas.Grind.{pow_more}
use Rattle.std.proofs.lemmas.List.{append_assoc, get_or_past}
use Rattle.std.proofs.Math.Pow.{pow_pos}
use Rattle.group_terms.specs.Names.{Name}
use Rattle.group_model.specs.Places.{Holders, is_held_by, place_in}
use Rattle.group_model.specs.Fresh.{upwards}
use Rattle.group_model.proofs.PlaceLemmas.{place_found}

-- a member's leaf is one of the leaves
pub leaf_bounds : (depth : ℕ) (holders : Holders) (m : Name) (leaf : ℕ) → length holders ≡ 2 ^ depth → place_in depth holders m ≡ Some leaf → (2 ^ depth ≤ leaf) × (leaf < 2 ^ (depth + 1))
leaf_bounds depth holders m leaf whole h =
    let found = place_found depth leaf holders m h in
    elim (cases_lt found.0 (length holders)) [
      | inl within ↦ (omega (arith, found.1), omega (arith, found.1, within, whole, pow_more 2 depth))
      | inr past ↦ absurd (false≢true (sym (ap (is_held_by m) (get_or_past holders found.0 None past)) ∙ found.2))
    ]

pub twice : (n : ℕ) → 2 ^ suc n ≡ 2 ^ n * 2
twice n = ap (λ k. 2 ^ k) (sym (add-one n)) ∙ pow_more 2 n

-- what is left of the way up from a leaf: from a position that is so many steps from the root
abbrev pub IsLeft : ℕ → ℕ → List ℕ → Option ℕ → Type 0
IsLeft depth leaf positions at =
    MatchOption at (positions ≡ upwards depth leaf) (λ id. (steps : ℕ) × (2 ^ steps ≤ id) × (id < 2 ^ (steps + 1)) × (positions ++ upwards steps id ≡ upwards depth leaf))

-- one step up
pub IsLeft-up : (depth leaf : ℕ) (positions : List ℕ) (id : ℕ) → IsLeft depth leaf positions (Some id) → IsLeft depth leaf (positions ++ id ∷ []) (if id == 1 then None else Some (id / 2))
IsLeft-up depth leaf positions id (zero, from, to, left) =
    let root : id ≡ 1 = omega (arith, from, to) in
    subst (IsLeft depth leaf (positions ++ id ∷ [])) (sym (ap (λ b. if b then None else Some (id / 2)) (eq-eqb id 1 root))) left
IsLeft-up depth leaf positions id (suc steps, from, to, left) =
    let other : id ≡ 1 → ⊥ = λ root. omega (arith, root, from, twice steps, pow_pos steps) in
    subst (IsLeft depth leaf (positions ++ id ∷ [])) (sym (ap (λ b. if b then None else Some (id / 2)) (ne_eqb id 1 other)))
    (steps, omega (arith, from, twice steps), omega (arith, to, twice steps, pow_more 2 (suc steps), pow_more 2 steps), append_assoc positions (id ∷ []) (upwards steps (id / 2)) ∙ left)

-- where a member has a place, that is one of the leaves
pub each_is_leaf : (depth : ℕ) (m : Name) (at : Option ℕ) (holders : Holders) → length holders ≡ 2 ^ depth → at ≡ place_in depth holders m → IfSome at (λ leaf. (2 ^ depth ≤ leaf) × (leaf < 2 ^ (depth + 1)))
each_is_leaf depth m None holders whole h = tt
each_is_leaf depth m (Some leaf) holders whole h = leaf_bounds depth holders m leaf whole (sym h)
