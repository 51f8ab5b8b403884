-- What is in a list that was made of another.
use Rattle.std.proofs.Common.{◌≡◌, ℕ, zero, suc, ◌+◌, ◌<◌, ◌≤◌, Bool, true, false, cond, List, [], ◌∷◌, Option, Some, None, map, sym, ap, ◌∙◌, subst, arith, inl, inr}
use Rattle.std.specs.Prelude.{Contains, ◌⊎◌}
use Rattle.std.specs.List.{filter, filter_map, flat_map, list_any, range_with_len}
use Rattle.std.proofs.lemmas.Bool.{cases_Bool, cases_eq, or_cases, or_left, or_right, false≢true}
use Rattle.std.proofs.lemmas.List.Elements.{Contains-append_left, Contains-append_right, Contains-append_cases}
use Rattle.std.proofs.lemmas.Option.{none-some, same_Some}
use Rattle.sym_closure.proofs.FirstLemmas.{no_item, only_item, Contains-first}

pub Contains-later : {X : Type 0} (y x : X) (xs : List X) → Contains xs x → Contains (y ∷ xs) x
Contains-later y x xs c = Contains-append_right (y ∷ []) xs x c

pub Contains-cases : {X : Type 0} (y x : X) (xs : List X) → Contains (y ∷ xs) x → (y ≡ x) ⊎ Contains xs x
Contains-cases y x xs c = elim (Contains-append_cases (y ∷ []) xs x c) [
  | inl here ↦ inl (only_item y x here)
  | inr later ↦ inr later
]

module _ {X Y : Type 0} (f : X → Y) where
  pub Contains-map : (xs : List X) (x : X) → Contains xs x → Contains (map f xs) (f x)
  Contains-map [] x c = absurd (no_item x c)
  Contains-map (first ∷ xs) x c = elim (Contains-cases first x xs c) [
    | inl here ↦ subst (λ one. Contains (map f (first ∷ xs)) (f one)) here (Contains-first (f first) (map f xs))
    | inr later ↦ Contains-later (f first) (f x) (map f xs) (Contains-map xs x later)
  ]

  pub Contains-from_map : (xs : List X) (y : Y) → Contains (map f xs) y → (x : X) × Contains xs x × (f x ≡ y)
  Contains-from_map [] y c = absurd (no_item y c)
  Contains-from_map (first ∷ xs) y c = elim (Contains-cases (f first) y (map f xs) c) [
    | inl here ↦ (first, Contains-first first xs, here)
    | inr later ↦ (let found = Contains-from_map xs y later in (found.0, Contains-later first found.0 xs found.1, found.2))
  ]

module _ {X : Type 0} (p : X → Bool) where
  pub Contains-filter : (xs : List X) (x : X) → Contains xs x → p x ≡ true → Contains (filter p xs) x
  Contains-filter [] x c h = absurd (no_item x c)
  Contains-filter (first ∷ xs) x c h = elim (Contains-cases first x xs c) [
    | inl here ↦
        subst (λ passes. Contains (cond passes (first ∷ filter p xs) (filter p xs)) x) (sym (ap p here ∙ h))
        (subst (Contains (first ∷ filter p xs)) here (Contains-first first (filter p xs)))
    | inr later ↦ elim (p first) as (λ passes. Contains (cond passes (first ∷ filter p xs) (filter p xs)) x) [
      | true ↦ Contains-later first x (filter p xs) (Contains-filter xs x later h)
      | false ↦ Contains-filter xs x later h
    ]
  ]

  pub Contains-from_filter : (xs : List X) (x : X) → Contains (filter p xs) x → Contains xs x × (p x ≡ true)
  Contains-from_filter [] x c = absurd (no_item x c)
  Contains-from_filter (first ∷ xs) x c = elim (cases_Bool (p first)) [
    | inl passes ↦ elim (Contains-cases first x (filter p xs) (subst (λ b. Contains (cond b (first ∷ filter p xs) (filter p xs)) x) passes c)) [
      | inl here ↦ (subst (Contains (first ∷ xs)) here (Contains-first first xs), ap p (sym here) ∙ passes)
      | inr later ↦ (let found = Contains-from_filter xs x later in (Contains-later first x xs found.0, found.1))
    ]
    | inr fails ↦ (
        let found = Contains-from_filter xs x (subst (λ b. Contains (cond b (first ∷ filter p xs) (filter p xs)) x) fails c) in
        (Contains-later first x xs found.0, found.1)
        )
  ]

  -- an element that passes
  pub passes_in : (xs : List X) (x : X) → Contains xs x → p x ≡ true → list_any p xs ≡ true
  passes_in [] x c h = absurd (no_item x c)
  passes_in (first ∷ xs) x c h = elim (Contains-cases first x xs c) [
    | inl here ↦ or_left (p first) (list_any p xs) (ap p here ∙ h)
    | inr later ↦ or_right (p first) (list_any p xs) (passes_in xs x later h)
  ]

  pub passes_from : (xs : List X) → list_any p xs ≡ true → (x : X) × Contains xs x × (p x ≡ true)
  passes_from [] h = absurd (false≢true h)
  passes_from (first ∷ xs) h = elim (or_cases (p first) (list_any p xs) h) [
    | inl here ↦ (first, Contains-first first xs, here)
    | inr later ↦ (let found = passes_from xs later in (found.0, Contains-later first found.0 xs found.1, found.2))
  ]

module _ {X Y : Type 0} (f : X → List Y) where
  pub Contains-flat_map : (xs : List X) (x : X) (y : Y) → Contains xs x → Contains (f x) y → Contains (flat_map f xs) y
  Contains-flat_map [] x y c h = absurd (no_item x c)
  Contains-flat_map (first ∷ xs) x y c h = elim (Contains-cases first x xs c) [
    | inl here ↦ Contains-append_left (f first) (flat_map f xs) y (subst (λ one. Contains (f one) y) (sym here) h)
    | inr later ↦ Contains-append_right (f first) (flat_map f xs) y (Contains-flat_map xs x y later h)
  ]

  pub Contains-from_flat_map : (xs : List X) (y : Y) → Contains (flat_map f xs) y → (x : X) × Contains xs x × Contains (f x) y
  Contains-from_flat_map [] y c = absurd (no_item y c)
  Contains-from_flat_map (first ∷ xs) y c = elim (Contains-append_cases (f first) (flat_map f xs) y c) [
    | inl here ↦ (first, Contains-first first xs, here)
    | inr later ↦ (let found = Contains-from_flat_map xs y later in (found.0, Contains-later first found.0 xs found.1, found.2))
  ]

-- somebody who is in a list of perhaps nobody
pub Contains-some : {X : Type 0} (xs : List (Option X)) (x : X) → Contains xs (Some x) → Contains (filter_map (λ one. one) xs) x
Contains-some [] x c = absurd (no_item (Some x) c)
Contains-some (None ∷ xs) x c = elim (Contains-cases None (Some x) xs c) [
  | inl here ↦ absurd (none-some x here)
  | inr later ↦ Contains-some xs x later
]
Contains-some (Some y ∷ xs) x c = elim (Contains-cases (Some y) (Some x) xs c) [
  | inl here ↦ subst (Contains (y ∷ filter_map (λ one. one) xs)) (same_Some y x here) (Contains-first y (filter_map (λ one. one) xs))
  | inr later ↦ Contains-later y x (filter_map (λ one. one) xs) (Contains-some xs x later)
]

pub Contains-from_some : {X : Type 0} (xs : List (Option X)) (x : X) → Contains (filter_map (λ one. one) xs) x → Contains xs (Some x)
Contains-from_some [] x c = absurd (no_item x c)
Contains-from_some (None ∷ xs) x c = Contains-later None (Some x) xs (Contains-from_some xs x c)
Contains-from_some (Some y ∷ xs) x c = elim (Contains-cases y x (filter_map (λ one. one) xs) c) [
  | inl here ↦ subst (λ one. Contains (Some y ∷ xs) (Some one)) here (Contains-first (Some y) xs)
  | inr later ↦ Contains-later (Some y) (Some x) xs (Contains-from_some xs x later)
]

-- the numbers from one on
pub Contains-range : (a n k : ℕ) → a ≤ k → k < a + n → Contains (range_with_len a n) k
Contains-range a zero k low high = absurd (omega (arith, low, high))
Contains-range a (suc n) k low high = elim (cases_eq a k) [
  | inl here ↦ subst (Contains (a ∷ range_with_len (a + 1) n)) here (Contains-first a (range_with_len (a + 1) n))
  | inr other ↦ Contains-later a k (range_with_len (a + 1) n) (Contains-range (a + 1) n k (omega (arith, low, other)) (omega (arith, high)))
]

pub Contains-from_range : (a n k : ℕ) → Contains (range_with_len a n) k → (a ≤ k) × (k < a + n)
Contains-from_range a zero k c = absurd (no_item k c)
Contains-from_range a (suc n) k c = elim (Contains-cases a k (range_with_len (a + 1) n) c) [
  | inl here ↦ (omega (arith, here), omega (arith, here))
  | inr later ↦ (let within = Contains-from_range (a + 1) n k later in (omega (arith, within.0), omega (arith, within.1)))
]
