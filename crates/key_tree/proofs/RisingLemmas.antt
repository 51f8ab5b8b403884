-- Numbers that rise.
use Rattle.std.proofs.Common.{◌≡◌, ℕ, zero, suc, ◌+◌, ◌<◌, ◌≤◌, Bool, true, false, cond, eqb, ◌||◌, List, [], ◌∷◌, ◌++◌, map, refl, sym, ap, ◌∙◌, arith, inl, inr}
use Rattle.std.specs.List.{All, AllByRecursion, IsDistinct, filter, range_with_len}
use Rattle.std.specs.List.Sorted.{IsPermutation, IsSorted, IsStrictlySortedBy}
use Rattle.std.specs.Ordering.{nat_cmp}
use Rattle.key_tree.proofs.VacantLemmas.{none_above}
use Rattle.std.proofs.lemmas.Bool.{cases_eq, eq-eqb, ne_eqb, or_left, or_right}
use Rattle.std.proofs.lemmas.Cmp.{nat_eq_equiv}
use Rattle.std.proofs.lemmas.List.Elements.{All-append, All-cons, All-head, All-tail, All-weaker}
use Rattle.std.proofs.lemmas.List.Sorted.{IsNonDecreasingBy-from_sort}
use Rattle.std.proofs.lemmas.Map.Keys.{IsDistinct-IsPermutation, IsStrictlyIncreasing-from_distinct, below_from_sorted, sorted_from_strictly_increasing, sorted_tail}
use Rattle.group_values.specs.Values.{Rises}
use Rattle.key_tree.specs.Private.Seats.{is_among}
use Rattle.key_tree.specs.declared.marks.Renewed.{Renewed}

-- places of which none comes twice, sorted
rises_strictly : (xs : List ℕ) → IsStrictlySortedBy nat_cmp xs → Rises xs
rises_strictly [] sorted = tt
rises_strictly (x ∷ xs) sorted = (
  λ k d low. below_from_sorted (x ∷ xs) 0 (suc k) d sorted (omega arith) (omega (arith, low)),
  rises_strictly xs (sorted_tail nat_cmp x xs sorted),
)

pub rises_sorted : (xs ys : List ℕ) → IsPermutation xs ys → IsSorted nat_cmp ys → IsDistinct eqb xs → Rises ys
rises_sorted xs ys same sorted distinct =
    rises_strictly ys (sorted_from_strictly_increasing ys (IsStrictlyIncreasing-from_distinct ys (IsNonDecreasingBy-from_sort (λ x. x) ys sorted)
    (IsDistinct-IsPermutation eqb nat_eq_equiv.symm xs ys same distinct)))

pub rises_append : (xs ys : List ℕ) (bound : ℕ) → Rises xs → Rises ys → All (λ x. x < bound) xs → All (λ x. bound ≤ x) ys → Rises (xs ++ ys)
rises_append [] ys bound up later below above = later
rises_append (x ∷ xs) ys bound up later below above =
    let less : x < bound = All-head (λ x. x < bound) x xs below in (
      All-append (λ w. x < w) xs ys up.0 (All-weaker (λ y. bound ≤ y) (λ y. x < y) (λ y from. omega (arith, from, less)) ys above),
      rises_append xs ys bound up.1 later (All-tail (λ x. x < bound) x xs below) above,
    )

pub each_among : (P : ℕ → Type 0) (xs : List ℕ) → ((i : ℕ) → is_among xs i ≡ true → P i) → AllByRecursion P xs
each_among P [] h = tt
each_among P (x ∷ xs) h = (
  h x (or_left (eqb x x) (is_among xs x) (eq-eqb x x refl)),
  each_among P xs (λ i there. h i (or_right (eqb i x) (is_among xs i) there)),
)

pub map_same : (f g : ℕ → Renewed) (xs : List ℕ) → AllByRecursion (λ x. f x ≡ g x) xs → map f xs ≡ map g xs
map_same f g [] all = refl
map_same f g (x ∷ xs) all = λ i. all.0 i ∷ map_same f g xs all.1 i

-- some that rise are those of a range that pass, where each number of it passes if it is among them
module _ (first : ℕ) (p : ℕ → Bool) (of : ℕ → Renewed) where
  abbrev of_place : ℕ → Renewed
  of_place i = of (first + i)

  pub sorted_are : (count k : ℕ) (xs : List ℕ) → Rises xs → All (λ x. k ≤ x) xs → All (λ x. x < k + count) xs
      → ((i : ℕ) → k ≤ i → i < k + count → is_among xs i ≡ p (first + i)) → map of_place xs ≡ map of (filter p (range_with_len (first + k) count))
  sorted_are zero k [] up from to same = refl
  sorted_are zero k (x ∷ xs) up from to same =
      absurd (omega (arith, All-head (λ x. k ≤ x) x xs from, All-head (λ x. x < k + zero) x xs to))
  sorted_are (suc count) k [] up from to same =
      let next : first + (k + 1) ≡ first + k + 1 = omega arith in
      let none : p (first + k) ≡ false = sym (same k (omega arith) (omega arith)) in
      sorted_are count (k + 1) [] tt (λ j d low. absurd (omega (arith, low))) (λ j d low. absurd (omega (arith, low))) (λ i later low. same i (omega (arith, later)) (omega (arith, low)))
      ∙ ap (λ n. map of (filter p (range_with_len n count))) next
      ∙ sym (ap (λ b. map of (cond b ((first + k) ∷ filter p (range_with_len (first + k + 1) count)) (filter p (range_with_len (first + k + 1) count)))) none)
  sorted_are (suc count) k (x ∷ xs) up from to same =
      let next : first + (k + 1) ≡ first + k + 1 = omega arith in
      let rest : List ℕ = filter p (range_with_len (first + k + 1) count) in
      let over : All (λ y. k + 1 ≤ y) xs =
      All-weaker (λ y. x < y) (λ y. k + 1 ≤ y) (λ y less. omega (arith, less, All-head (λ x. k ≤ x) x xs from)) xs up.0 in
      elim (cases_eq x k) [
        | inl here ↦ (
            let passes : p (first + k) ≡ true = sym (same k (omega arith) (omega arith)) ∙ or_left (eqb k x) (is_among xs k) (eq-eqb k x (sym here)) in
            (λ i. of (first + here i) ∷ (sorted_are count (k + 1) xs up.1 over
            (λ j d low. omega (arith, to (suc j) d (omega (arith, low))))
            (λ i later low.
            ap (λ b. b || is_among xs i) (sym (ne_eqb i x (λ e. absurd (omega (arith, e, later, here)))))
            ∙ same i (omega (arith, later)) (omega (arith, low)))
            ∙ ap (λ n. map of (filter p (range_with_len n count))) next) i)
            ∙ sym (ap (λ b. map of (cond b ((first + k) ∷ rest) rest)) passes)
            )
        | inr other ↦ (
            let more : k + 1 ≤ x = omega (arith, All-head (λ x. k ≤ x) x xs from, other) in
            let all : All (λ y. k + 1 ≤ y) (x ∷ xs) = All-cons (λ y. k + 1 ≤ y) x xs more over in
            let none : p (first + k) ≡ false = sym (same k (omega arith) (omega arith)) ∙ none_above (k + 1) k (x ∷ xs) all (omega arith) in
            sorted_are count (k + 1) (x ∷ xs) up all (λ j d low. omega (arith, to j d low)) (λ i later low. same i (omega (arith, later)) (omega (arith, low)))
            ∙ ap (λ n. map of (filter p (range_with_len n count))) next
            ∙ sym (ap (λ b. map of (cond b ((first + k) ∷ rest) rest)) none)
            )
      ]

-- each number of a range
pub within_range : (count first : ℕ) → All (λ v. (first ≤ v) × (v < first + count)) (range_with_len first count)
within_range zero first = λ k d low. absurd (omega (arith, low))
within_range (suc count) first = All-cons (λ v. (first ≤ v) × (v < first + suc count)) first (range_with_len (first + 1) count)
    (omega arith, omega arith)
    (All-weaker (λ v. (first + 1 ≤ v) × (v < first + 1 + count)) (λ v. (first ≤ v) × (v < first + suc count)) (λ v h. (omega (arith, h.0), omega (arith, h.1)))
    (range_with_len (first + 1) count) (within_range count (first + 1)))
