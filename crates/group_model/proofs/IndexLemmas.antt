-- The index of names may be given up (`NameIndex`): its invariant holds as far as there is one, so an insertion that is out of memory needs no error.
use Rattle.std.proofs.Common.{◌≡◌, ℕ, zero, suc, ◌+◌, ◌<◌, Bool, true, false, not, ltb, List, [], ◌∷◌, Option, None, Some, cond, length, replicate, get_or, ◌||◌, refl, sym, ap, ◌∙◌, arith, inl, inr}
use Rattle.std.specs.Prelude.{is_some}
use Rattle.std.specs.List.{list_any, position, position_or_len}
use Rattle.std.proofs.lemmas.Bool.{cases_Bool, cases_lt, false≢true, false_from_ne_true, cond-true, lt-ltb, ltb-true, ltb-false}
use Rattle.std.proofs.lemmas.List.{get_or_past}
use Rattle.std.proofs.lemmas.List.Quantifiers.{position-Some}
use Rattle.std.proofs.lemmas.List.Sums.{fails_before_first}
use Rattle.std.proofs.lemmas.Option.{none-some}
use Rattle.group_terms.specs.Names.{Name}
use Rattle.group_model.specs.Places.{Holders, is_held_by}
use Rattle.group_model.specs.Indexes.{IsIndex}
use Rattle.group_model.proofs.StayedLemmas.{same_name-is, same_name-self}

held_name : (m : Name) (holder : Option Name) → is_held_by m holder ≡ true → holder ≡ Some m
held_name m None h = absurd (false≢true h)
held_name m (Some name) h = ap Some (sym (same_name-is m name h))

-- where no place is found, no element passes
pub position_none : {A : Type 0} (p : A → Bool) (xs : List A) (i : ℕ) (d : A) → position p xs ≡ None → i < length xs → p (get_or xs i d) ≡ false
position_none p xs i d none low = elim (cases_Bool (ltb (position_or_len p xs) (length xs))) [
  | inl found ↦ absurd (none-some (position_or_len p xs) (sym none ∙ cond-true (ltb (position_or_len p xs) (length xs)) (Some (position_or_len p xs)) None found))
  | inr past ↦ fails_before_first p xs i d (omega (arith, low, ltb-false (position_or_len p xs) (length xs) past))
]

-- an index finds the leaf that is found by looking at each
pub found_by_name : (holders : Holders) (find : Name → Option ℕ) (m : Name) → IsIndex holders find → find m ≡ position (is_held_by m) holders
found_by_name holders find m index = at_place (position (is_held_by m) holders) refl
  where
    nowhere : (place : Option ℕ) → position (is_held_by m) holders ≡ None → find m ≡ place → place ≡ None
    nowhere None none is = refl
    nowhere (Some i) none is =
        let there : get_or holders i None ≡ Some m = index.there m i is in
        elim (cases_lt i (length holders)) [
          | inl low ↦ absurd (false≢true (sym (position_none (is_held_by m) holders i None none low) ∙ ap (is_held_by m) there ∙ same_name-self m))
          | inr past ↦ absurd (none-some m (sym (get_or_past holders i None past) ∙ there))
        ]

    at_place : (place : Option ℕ) → position (is_held_by m) holders ≡ place → find m ≡ place
    at_place None none = nowhere (find m) none refl
    at_place (Some i) is = index.found m i (held_name m (get_or holders i None) (position-Some (is_held_by m) holders i None is).1)

nobody_there : (n i : ℕ) → get_or (replicate {A = Option Name} n None) i None ≡ None
nobody_there zero i = refl
nobody_there (suc n) zero = refl
nobody_there (suc n) (suc i) = nobody_there n i

-- before the first batch nobody is found
pub nobody_found : (n : ℕ) (find : Name → Option ℕ) → ((m : Name) → find m ≡ None) → IsIndex (replicate n None) find
nobody_found n find none = record {
  there = λ m i is. absurd (none-some i (sym (none m) ∙ is));
  found = λ m i is. absurd (none-some m (sym (nobody_there n i) ∙ is));
}

-- a place is found exactly where one passes
is_some_if : (b : Bool) (n : ℕ) → is_some (cond b (Some n) None) ≡ b
is_some_if true n = refl
is_some_if false n = refl

ltb_more : (a b : ℕ) → ltb (1 + a) (suc b) ≡ ltb a b
ltb_more a b = elim (cases_Bool (ltb a b)) [
  | inl less ↦ lt-ltb (1 + a) (suc b) (omega (arith, ltb-true a b less)) ∙ sym less
  | inr past ↦ false_from_ne_true (ltb (1 + a) (suc b)) (λ less. absurd (omega (arith, ltb-true (1 + a) (suc b) less, ltb-false a b past))) ∙ sym past
]

pub first_passes : {A : Type 0} (p : A → Bool) (xs : List A) → ltb (position_or_len p xs) (length xs) ≡ list_any p xs
first_passes p [] = refl
first_passes p (x ∷ xs) = elim (p x) as (λ b. ltb (cond (not b) (1 + position_or_len p xs) 0) (suc (length xs)) ≡ (b || list_any p xs)) [
  | true ↦ lt-ltb 0 (suc (length xs)) (omega arith)
  | false ↦ ltb_more (position_or_len p xs) (length xs) ∙ first_passes p xs
]

pub is_some-position : {A : Type 0} (p : A → Bool) (xs : List A) → is_some (position p xs) ≡ list_any p xs
is_some-position p xs = is_some_if (ltb (position_or_len p xs) (length xs)) (position_or_len p xs) ∙ first_passes p xs
