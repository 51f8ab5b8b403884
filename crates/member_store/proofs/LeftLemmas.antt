-- How many positions of a path have no key among those that were taken.
use Rattle.std.proofs.Common.{◌≡◌, ◌∙◌, ap, arith, inl, inr, refl, subst, sym, ℕ, ◌+◌, ◌≤◌, ◌&&◌, ◌||◌, not, Bool, true, false, List, [], ◌∷◌, ◌++◌, length, None, is_some, if◌then◌else◌}
use Rattle.std.specs.List.{find}
use Rattle.std.proofs.lemmas.Bool.{cases_Bool, eq-eqb, eqb-true, false≢true}
use Rattle.std.proofs.lemmas.List.Folds.{list_any-append}
use Rattle.group_terms.specs.declared.paths.PathKey.{PathKey}
use Rattle.kd_wire.specs.declared.updates.SealedKey.{SealedKey}
use Rattle.member_store.specs.Stores.{has_position, is_at}
use Rattle.member_store.specs.Takings.{can_take, sealer_of}
use Rattle.member_store.proofs.FindLemmas.{found_after}

-- 1 where a key is missing
abbrev pub missing : Bool → ℕ
missing taken = if taken then 0 else 1

abbrev pub positions_left : List PathKey → List PathKey → ℕ
positions_left taken [] = 0
positions_left taken (key ∷ path) = missing (has_position taken key.id) + positions_left taken path

pub all_left : (path : List PathKey) → positions_left [] path ≡ length path
all_left [] = refl
all_left (key ∷ path) = omega (arith, all_left path)

missing_less : (a b : Bool) → missing (a || b) ≤ missing a
missing_less true b = omega arith
missing_less false true = omega arith
missing_less false false = omega arith

not_missing : (a : Bool) → missing a ≡ 0 → a ≡ true
not_missing true none = refl
not_missing false none = absurd (omega (arith, none))

module _ (taken : List PathKey) (new : PathKey) where
  abbrev with_new : List PathKey
  with_new = taken ++ new ∷ []

  has_with_new : (id : ℕ) → has_position with_new id ≡ (has_position taken id || (is_at id new || false))
  has_with_new id = list_any-append (is_at id) taken (new ∷ [])

  no_more_missing : (id : ℕ) → missing (has_position with_new id) ≤ missing (has_position taken id)
  no_more_missing id =
      subst (λ has. missing has ≤ missing (has_position taken id)) (sym (has_with_new id))
      (missing_less (has_position taken id) (is_at id new || false))

  no_more_left : (path : List PathKey) → positions_left with_new path ≤ positions_left taken path
  no_more_left [] = omega arith
  no_more_left (key ∷ path) = omega (arith, no_more_missing key.id, no_more_left path)

  here_is_new : (id : ℕ) → is_at id new ≡ true → has_position with_new id ≡ true
  here_is_new id is = has_with_new id ∙ ap (λ here. has_position taken id || (here || false)) is ∙ or_true (has_position taken id)
    where
      or_true : (a : Bool) → (a || (true || false)) ≡ true
      or_true true = refl
      or_true false = refl

  pub fewer_left : (path : List PathKey) → has_position path new.id ≡ true → has_position taken new.id ≡ false
      → positions_left with_new path + 1 ≤ positions_left taken path
  fewer_left [] there missing_still = absurd (false≢true there)
  fewer_left (key ∷ path) there missing_still = elim (cases_Bool (is_at new.id key)) [
    | inl here ↦ (
        let same : key.id ≡ new.id = eqb-true key.id new.id here in
        let before : missing (has_position taken key.id) ≡ 1 =
        ap (λ id. missing (has_position taken id)) same ∙ ap missing missing_still in
        let after : missing (has_position with_new key.id) ≡ 0 =
        ap missing (here_is_new key.id (eq-eqb new.id key.id (sym same))) in
        omega (arith, before, after, no_more_left path)
        )
    | inr other ↦ (
        let later : has_position path new.id ≡ true = sym (ap (λ here. here || has_position path new.id) other) ∙ there in
        omega (arith, no_more_missing key.id, fewer_left path later missing_still)
        )
  ]

-- where none is left, each position of the path has a key
pub none_left : (taken path : List PathKey) → positions_left taken path ≡ 0
    → (id : ℕ) → has_position path id ≡ true → has_position taken id ≡ true
none_left taken [] none id there = absurd (false≢true there)
none_left taken (key ∷ path) none id there = elim (cases_Bool (is_at id key)) [
  | inl here ↦ (
      subst (λ position. has_position taken position ≡ true) (eqb-true key.id id here)
      (not_missing (has_position taken key.id) (omega (arith, none)))
      )
  | inr other ↦ none_left taken path (omega (arith, none)) id (sym (ap (λ here. here || has_position path id) other) ∙ there)
]

cannot : (p q x : Bool) → (p ≡ true → q ≡ true) → (p && (not q && x)) ≡ false
cannot false q x only = refl
cannot true true x only = refl
cannot true false x only = absurd (false≢true (only refl))

-- and none can be taken
pub none_can : (path taken : List PathKey) (given : List SealedKey) → positions_left taken path ≡ 0 → find (can_take path taken) given ≡ None
none_can path taken [] none = refl
none_can path taken (key ∷ given) none =
    found_after (can_take path taken) key given
    (cannot (has_position path key.gives.id) (has_position taken key.gives.id) (is_some (sealer_of path taken key))
    (none_left taken path none key.gives.id))
    ∙ none_can path taken given none
