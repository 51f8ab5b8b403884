-- A member has a leaf.
use Rattle.std.proofs.Common.{◌≡◌, ◌∙◌, ◌+◌, ◌^◌, ◌||◌, inl, inr, ℕ, suc, Bool, true, false, cond, not, ltb}
use Rattle.std.proofs.Common.{List, [], ◌∷◌, length, Option, None, Some, refl, sym, ap, arith}
use Rattle.std.specs.Prelude.{IfNone, IsSome}
use Rattle.std.specs.List.{list_any, position_or_len}
use Rattle.std.specs.Option.{option_map}
use Rattle.std.proofs.lemmas.Bool.{cases_Bool, false_from_ne_true, lt-ltb, ltb-false, ltb-true}
use Rattle.group_terms.specs.Names.{Name}
use Rattle.group_model.specs.Places.{Holders, is_held_by, is_member, place_in}

-- ---- where one of a list passes, the first that passes is one of the list

ltb_more : (a b : ℕ) → ltb (1 + a) (suc b) ≡ ltb a b
ltb_more a b = elim (cases_Bool (ltb a b)) [
  | inl less ↦ lt-ltb (1 + a) (suc b) (omega (arith, ltb-true a b less)) ∙ sym less
  | inr past ↦ false_from_ne_true (ltb (1 + a) (suc b)) (λ less. absurd (omega (arith, ltb-true (1 + a) (suc b) less, ltb-false a b past))) ∙ sym past
]

first_passes : {A : Type 0} (p : A → Bool) (xs : List A) → ltb (position_or_len p xs) (length xs) ≡ list_any p xs
first_passes p [] = refl
first_passes p (x ∷ xs) = elim (p x) as (λ b. ltb (cond (not b) (1 + position_or_len p xs) 0) (suc (length xs)) ≡ (b || list_any p xs)) [
  | true ↦ lt-ltb 0 (suc (length xs)) (omega arith)
  | false ↦ ltb_more (position_or_len p xs) (length xs) ∙ first_passes p xs
]

-- ---- what is found for a member

module _ (depth : ℕ) (holders : Holders) (m : Name) (member : is_member holders m ≡ true) where
  has_place : place_in depth holders m ≡ None → ⊥
  has_place none =
      let place = position_or_len (is_held_by m) holders in
      let found : ltb place (length holders) ≡ true = first_passes (is_held_by m) holders ∙ member in
      let there : place_in depth holders m ≡ Some (2 ^ depth + place) = ap (λ b. option_map (λ i. 2 ^ depth + i) (cond b (Some place) None)) found in
      absurd (cc (none, there))

  -- what is none only for who has no leaf is there
  pub is_there : {A : Type 0} (found : Option A) → IfNone found (place_in depth holders m ≡ None) → IsSome found
  is_there None none = absurd (has_place none)
  is_there (Some value) none = refl
