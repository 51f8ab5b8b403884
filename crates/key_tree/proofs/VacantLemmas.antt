-- The lowest leaf that nobody has is the lowest one that was free before, or the lowest one that was left.
use Rattle.std.proofs.Common.{◌≡◌, ℕ, zero, suc, ◌+◌, ◌<◌, ◌≤◌, Bool, true, false, cond, eqb, ltb, ◌||◌, List, [], ◌∷◌, ◌++◌, Option, None, Some, length, take, drop, get_or, refl, sym, ap, subst, ◌∙◌, add-one, arith, inl, inr}
use Rattle.std.specs.List.{All, slice_get}
use Rattle.std.proofs.lemmas.Bool.{cases_Bool, cases_lt, eq-eqb, eqb-true, false≢true, ltb-true, ltb-false, ne_eqb, or_left, or_right}
use Rattle.std.proofs.lemmas.List.{get_or_past}
use Rattle.std.proofs.lemmas.List.Elements.{All-append, All-cons, All-head, All-weaker}
use Rattle.std.proofs.lemmas.List.Folds.{list_any-append, list_any_at, list_any_none}
use Rattle.group_values.specs.Values.{Rises}
use Rattle.key_tree.specs.declared.vacant.Vacant.{Vacant}
use Rattle.key_tree.specs.Private.Lowest.{IsLowestFrom, lower_of}
use Rattle.key_tree.specs.Private.Seats.{IsVacant, is_among, is_first, is_vacant, passed_by}

pub none_below : (bound i : ℕ) (xs : List ℕ) → All (λ x. x < bound) xs → bound ≤ i → is_among xs i ≡ false
none_below bound i xs all past =
    list_any_none (λ x. eqb i x) xs (All-weaker (λ x. x < bound) (λ x. eqb i x ≡ false) (λ x less. ne_eqb i x (λ e. absurd (omega (arith, less, past, e)))) xs all)

pub none_above : (bound i : ℕ) (xs : List ℕ) → All (λ x. bound ≤ x) xs → i < bound → is_among xs i ≡ false
none_above bound i xs all before =
    list_any_none (λ x. eqb i x) xs (All-weaker (λ x. bound ≤ x) (λ x. eqb i x ≡ false) (λ x from. ne_eqb i x (λ e. absurd (omega (arith, from, before, e)))) xs all)

pub parted : (k : ℕ) (xs : List ℕ) → take k xs ++ drop k xs ≡ xs
parted zero xs = refl
parted (suc k) [] = refl
parted (suc k) (x ∷ xs) = ap (λ rest. x ∷ rest) (parted k xs)

pub among_parts : (k : ℕ) (xs : List ℕ) (i : ℕ) → is_among xs i ≡ (is_among (take k xs) i || is_among (drop k xs) i)
among_parts k xs i = ap (λ l. is_among l i) (sym (parted k xs)) ∙ list_any-append (λ x. eqb i x) (take k xs) (drop k xs)

pub rises_rest : (k : ℕ) (xs : List ℕ) → Rises xs → Rises (drop k xs)
rises_rest zero xs h = h
rises_rest (suc k) [] h = tt
rises_rest (suc k) (x ∷ xs) h = rises_rest k xs h.1

-- one of the rest more
record OneMore (k : ℕ) (xs : List ℕ) (r : ℕ) (rest : List ℕ) : Type 0 where
  within : k < length xs
  after : drop (suc k) xs ≡ rest
  before : take (suc k) xs ≡ take k xs ++ r ∷ []

one_more : (k : ℕ) (xs : List ℕ) (r : ℕ) (rest : List ℕ) → drop k xs ≡ r ∷ rest → OneMore k xs r rest
one_more zero [] r rest is = absurd (cc is)
one_more zero (x ∷ xs) r rest is =
    let first : x ≡ r = cc is in
    let others : xs ≡ rest = cc is in
    record { within = omega arith; after = others; before = ap (λ y. y ∷ []) first }
one_more (suc k) [] r rest is = absurd (cc is)
one_more (suc k) (x ∷ xs) r rest is =
    let h = one_more k xs r rest is in
    record { within = omega (arith, h.within); after = h.after; before = ap (λ l. x ∷ l) h.before }

-- the lowest of some that rise is the first one
lowest_first : (from : ℕ) (rest : List ℕ) → Rises rest → All (λ x. from ≤ x) rest → IsLowestFrom (is_among rest) from (slice_get rest 0)
lowest_first from [] rises all = λ i later. refl
lowest_first from (r ∷ rest) rises all = (
  All-head (λ x. from ≤ x) r rest all,
  or_left (eqb r r) (is_among rest r) (eq-eqb r r refl),
  λ i from_it before. ap (λ b. b || is_among rest i) (ne_eqb i r (λ e. absurd (omega (arith, e, before))))
      ∙ none_above r i rest (All-weaker (λ x. r < x) (λ x. r ≤ x) (λ x less. omega (arith, less)) rest rises.0) before,
)

lowest_same : (p q : ℕ → Bool) (from : ℕ) → ((i : ℕ) → from ≤ i → p i ≡ q i) → (lowest : Option ℕ) → IsLowestFrom p from lowest → IsLowestFrom q from lowest
lowest_same p q from same None h = λ i later. sym (same i later) ∙ h i later
lowest_same p q from same (Some n) h = (h.0, sym (same n h.0) ∙ h.1, λ i later before. sym (same i later) ∙ h.2 i later before)

lowest_or : (p q : ℕ → Bool) (from : ℕ) (one other : Option ℕ) → IsLowestFrom p from one → IsLowestFrom q from other → IsLowestFrom (λ i. p i || q i) from (lower_of one other)
lowest_or p q from None None h k = λ i later. (λ j. h i later j || k i later j)
lowest_or p q from None (Some b) h k = (k.0, or_right (p b) (q b) k.1, λ i later before. (λ j. h i later j || k.2 i later before j))
lowest_or p q from (Some a) None h k = (h.0, or_left (p a) (q a) h.1, λ i later before. (λ j. h.2 i later before j || k i later j))
lowest_or p q from (Some a) (Some b) h k = elim (cases_Bool (ltb a b)) [
  | inl less ↦ subst (λ t. IsLowestFrom (λ i. p i || q i) from (Some (cond t a b))) (sym less)
      (h.0, or_left (p a) (q a) h.1, λ i later before. (λ j. h.2 i later before j || k.2 i later (omega (arith, before, ltb-true a b less)) j))
  | inr not_less ↦ subst (λ t. IsLowestFrom (λ i. p i || q i) from (Some (cond t a b))) (sym not_less)
      (k.0, or_right (p b) (q b) k.1, λ i later before. (λ j. h.2 i later (omega (arith, before, ltb-false a b not_less)) j || k.2 i later before j))
]

module _ (vacant : Vacant) (h : IsVacant vacant) where
  abbrev rest : List ℕ
  rest = drop vacant.passed vacant.left

  pub from_rest : (i : ℕ) → vacant.from ≤ i → is_among rest i ≡ is_among vacant.left i
  from_rest i later =
      sym (among_parts vacant.passed vacant.left i
      ∙ ap (λ b. b || is_among rest i) (none_below vacant.from i (take vacant.passed vacant.left) h.passed later))

  pub lowest_vacant : (free : List Bool) (was_free was_left : Option ℕ) → IsLowestFrom (λ i. get_or free i false) vacant.from was_free → was_left ≡ slice_get rest 0
      → IsLowestFrom (is_vacant free vacant.left) vacant.from (lower_of was_free was_left)
  lowest_vacant free was_free was_left lowest is =
      lowest_or (λ i. get_or free i false) (is_among vacant.left) vacant.from was_free was_left lowest
      (lowest_same (is_among rest) (is_among vacant.left) vacant.from from_rest was_left
      (subst (IsLowestFrom (is_among rest) vacant.from) (sym is) (lowest_first vacant.from rest (rises_rest vacant.passed vacant.left h.rises) h.later)))

  -- no leaf that was left is below it
  pub none_lower : (free : List Bool) (place : ℕ) → IsLowestFrom (is_vacant free vacant.left) vacant.from (Some place) → All (λ x. place ≤ x) rest
  none_lower free place lowest k d low =
      let x : ℕ = get_or rest k d in
      elim (cases_lt x place) [
        | inr from ↦ from
        | inl before ↦ (
            let there : is_among rest x ≡ true = list_any_at (λ y. eqb x y) rest k d low (eq-eqb x x refl) in
            let later : vacant.from ≤ x = h.later k d low in
            absurd (false≢true (sym (lowest.2 x later before) ∙ or_right (get_or free x false) (is_among vacant.left x) (sym (from_rest x later) ∙ there)))
            )
      ]

  pub place_low : (free : List Bool) (place : ℕ) → length free ≤ 512 → IsLowestFrom (is_vacant free vacant.left) vacant.from (Some place) → place < 65536
  place_low free place few lowest = elim (cases_lt place 65536) [
    | inl low ↦ low
    | inr past ↦ absurd (false≢true (
        sym ((λ i. get_or_past free place false (omega (arith, few, past)) i || none_below 65536 place vacant.left h.low past i)) ∙ lowest.1
        ))
  ]

  -- past a leaf that somebody gets
  passed_over : (place : ℕ) (left : List ℕ) → rest ≡ left → vacant.from ≤ place → All (λ x. place ≤ x) rest
      → IsVacant (record { left = vacant.left; passed = cond (is_first left place) (vacant.passed + 1) vacant.passed; from = place + 1 })
  passed_over place [] is from lowest = record {
    rises = h.rises;
    low = h.low;
    within = h.within;
    passed = All-weaker (λ x. x < vacant.from) (λ x. x < place + 1) (λ x less. omega (arith, less, from)) (take vacant.passed vacant.left) h.passed;
    later = subst (All (λ x. place + 1 ≤ x)) (sym is) (λ k d low. absurd (omega (arith, low)));
  }
  passed_over place (r ∷ left) is from lowest =
      let more = one_more vacant.passed vacant.left r left is in
      let gone : All (λ x. x < place + 1) (take vacant.passed vacant.left) =
      All-weaker (λ x. x < vacant.from) (λ x. x < place + 1) (λ x less. omega (arith, less, from)) (take vacant.passed vacant.left) h.passed in
      let rises : Rises (r ∷ left) = subst Rises is (rises_rest vacant.passed vacant.left h.rises) in
      let high : place ≤ r = All-head (λ x. place ≤ x) r left (subst (All (λ x. place ≤ x)) is lowest) in
      let after : All (λ x. place + 1 ≤ x) left = All-weaker (λ x. r < x) (λ x. place + 1 ≤ x) (λ x less. omega (arith, less, high)) left rises.0 in
      let one : vacant.passed + 1 ≡ suc vacant.passed = add-one vacant.passed in
      elim (cases_Bool (eqb r place)) [
        | inl first ↦ subst (λ b. IsVacant (record { left = vacant.left; passed = cond b (vacant.passed + 1) vacant.passed; from = place + 1 })) (sym first) (record {
          rises = h.rises;
          low = h.low;
          within = omega (arith, more.within);
          passed = subst (λ n. All (λ x. x < place + 1) (take n vacant.left)) (sym one)
              (subst (All (λ x. x < place + 1)) (sym more.before) (All-append (λ x. x < place + 1) (take vacant.passed vacant.left) (r ∷ []) gone
              (All-cons (λ x. x < place + 1) r [] (omega (arith, eqb-true r place first)) (λ k d low. absurd (omega (arith, low))))));
          later = subst (λ n. All (λ x. place + 1 ≤ x) (drop n vacant.left)) (sym one) (subst (All (λ x. place + 1 ≤ x)) (sym more.after) after);
        })
        | inr other ↦ subst (λ b. IsVacant (record { left = vacant.left; passed = cond b (vacant.passed + 1) vacant.passed; from = place + 1 })) (sym other) (record {
          rises = h.rises;
          low = h.low;
          within = h.within;
          passed = gone;
          later = subst (All (λ x. place + 1 ≤ x)) (sym is)
              (All-cons (λ x. place + 1 ≤ x) r left (apart high (λ e. false≢true (sym other ∙ eq-eqb r place e))) after);
        })
      ]
    where
      apart : place ≤ r → (r ≡ place → ⊥) → place + 1 ≤ r
      apart high other = elim (cases_lt place r) [
        | inl less ↦ omega (arith, less)
        | inr same ↦ absurd (other (omega (arith, same, high)))
      ]

  pub passes : (place : ℕ) → vacant.from ≤ place → All (λ x. place ≤ x) rest → (passed : ℕ) → passed ≡ passed_by vacant.left vacant.passed place
      → IsVacant (record { left = vacant.left; passed = passed; from = place + 1 })
  passes place from lowest passed is =
      subst (λ n. IsVacant (record { left = vacant.left; passed = n; from = place + 1 })) (sym is) (passed_over place rest refl from lowest)
