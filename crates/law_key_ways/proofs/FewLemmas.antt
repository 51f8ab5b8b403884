-- A batch encrypts no more than one key for each lowest inner position, and two for each position above these.
use Rattle.std.proofs.Common.{◌≡◌, ℕ, zero, suc, ◌+◌, ◌-◌, ◌*◌, ◌/◌, ◌^◌, ◌<◌, ◌≤◌, Bool, true, false, cond, List, [], ◌∷◌, length, get_or}
use Rattle.std.proofs.Common.{sym, refl, ap, ◌∙◌, arith, inl, inr}
use Rattle.std.specs.List.{filter, flat_map}
use Rattle.std.proofs.lemmas.Bool.{cases_Bool, cases_eq, cases_lt, false≢true, false_from_ne_true}
use Rattle.std.proofs.lemmas.Grind.{pow_more}
use Rattle.std.proofs.lemmas.List.{length-append, length-map}
use Rattle.std.proofs.lemmas.Nat.{pow_pos}
use Rattle.group_terms.specs.Positions.{some_leaf_below}
use Rattle.group_terms.specs.declared.changes.Change.{Change}
use Rattle.group_terms.specs.declared.keys.Wrap.{Wrap}
use Rattle.group_model.specs.Fresh.{is_fresh}
use Rattle.group_model.specs.Laws.{Laws}
use Rattle.group_model.specs.Places.{Holders, IsValid, holders_at}
use Rattle.group_model.specs.Stayed.{kept_leaves}
use Rattle.group_model.specs.Wraps.{falling, node_wraps}
use Rattle.law_key_ways.proofs.LeafLemmas.{length-kept, other_below, other_stays_not}
use Rattle.law_key_ways.proofs.MarkLemmas.{leaf_of_mark}
use Rattle.law_key_ways.proofs.StepLemmas.{node_wraps-is, wrap_by, wraps_below, wraps_by}
use Rattle.law_key_ways.proofs.WayLemmas.{only_child, only_leaf}

-- how many of two pass
length_of_two : (first second : Bool) (a b : ℕ) → length (cond first (a ∷ cond second (b ∷ []) []) (cond second (b ∷ []) [])) ≡ cond first 1 0 + cond second 1 0
length_of_two true true a b = refl
length_of_two true false a b = refl
length_of_two false true a b = refl
length_of_two false false a b = refl

one_at_most : (b : Bool) → cond b 1 0 ≤ 1
one_at_most true = omega arith
one_at_most false = omega arith

none_at_most : (b : Bool) → b ≡ false → cond b 1 0 ≤ 0
none_at_most b none = rw none (omega arith)

module _ (laws : Laws) (depth epoch : ℕ) (batches : List (List Change)) (valid : IsValid depth batches) (early : epoch < length batches) where
  abbrev before : Holders
  before = holders_at depth batches epoch

  abbrev after : Holders
  after = holders_at depth batches (epoch + 1)

  abbrev fresh : ℕ → Bool
  fresh = is_fresh depth before after

  abbrev kept : ℕ → Bool
  kept = some_leaf_below depth (kept_leaves before after)

  abbrev wraps : ℕ → List Wrap
  wraps = wraps_by depth epoch batches before

  length-wraps : (v : ℕ) → length (wraps v) ≡ cond (kept (2 * v)) 1 0 + cond (kept (2 * v + 1)) 1 0
  length-wraps v =
      length-map (filter kept (2 * v ∷ (2 * v + 1) ∷ [])) (wrap_by depth epoch batches v) ∙ length_of_two (kept (2 * v)) (kept (2 * v + 1)) (2 * v) (2 * v + 1)

  two_at_most : (v : ℕ) → length (wraps v) ≤ 2
  two_at_most v = omega (arith, length-wraps v, one_at_most (kept (2 * v)), one_at_most (kept (2 * v + 1)))

  -- a leaf with another holder is kept for nobody
  not_kept : (x i : ℕ) → x ≡ 2 ^ depth + i → i < 2 ^ depth → get_or (kept_leaves before after) i false ≡ false → kept x ≡ false
  not_kept x i is low none = false_from_ne_true (kept x) (λ mark.
      let found = leaf_of_mark depth (kept_leaves before after) x mark in
      let same : 2 ^ depth + found.0 ≡ x =
      only_leaf depth x (2 ^ depth + found.0) (omega (arith, found.1, length-kept laws depth epoch batches, pow_more 2 depth)) found.3 (omega (arith, is)) in
      let here : i ≡ found.0 = omega (arith, same, is) in
      false≢true (sym none ∙ ap (λ k. get_or (kept_leaves before after) k false) here ∙ found.2))

  module _ (half : ℕ) (double : 2 ^ depth ≡ half * 2) (some : 1 ≤ half) where
    -- of a lowest inner position that gets a new key one child is a leaf that changed hands
    lowest_one : (v : ℕ) → half < v → v < 2 ^ depth → fresh v ≡ true → length (wraps v) ≤ 1
    lowest_one v low inner renewed =
        let found = other_below laws depth epoch batches v (λ root. omega (arith, root, low, some)) renewed in
        let x = 2 ^ depth + found.0 in
        let none = not_kept x found.0 refl found.1 (other_stays_not laws depth epoch batches valid early found.0 found.1 found.3) in
        let up : x / 2 ≡ v = only_child depth v x (omega (arith, found.1, pow_more 2 depth)) found.2 half double (omega arith) (omega (arith, low)) inner in
        elim (cases_eq x (2 * v)) [
          | inl left ↦ omega (arith, none_at_most (kept (2 * v)) (ap kept (sym left) ∙ none), length-wraps v, one_at_most (kept (2 * v + 1)))
          | inr other ↦ (
              let right : 2 * v + 1 ≡ x = omega (arith, up, other) in
              omega (arith, none_at_most (kept (2 * v + 1)) (ap kept right ∙ none), length-wraps v, one_at_most (kept (2 * v)))
              )
        ]

    abbrev count : ℕ → ℕ
    count n = length (wraps_below depth epoch batches before n)

    next : (n most : ℕ) → (fresh (suc n) ≡ true → length (wraps (suc n)) ≤ most) → count (suc n) ≤ most + count n
    next n most each = elim (cases_Bool (fresh (suc n))) [
      | inl renewed ↦ (
          let is : count (suc n) ≡ length (wraps (suc n)) + count n =
          ap (λ b. length (flat_map wraps (cond b (suc n ∷ filter fresh (falling n)) (filter fresh (falling n))))) renewed
          ∙ length-append (wraps (suc n)) (wraps_below depth epoch batches before n) in
          omega (arith, is, each renewed)
          )
      | inr same ↦ (
          let is : count (suc n) ≡ count n = ap (λ b. length (flat_map wraps (cond b (suc n ∷ filter fresh (falling n)) (filter fresh (falling n))))) same in
          omega (arith, is)
          )
    ]

    two_each : (n : ℕ) → count n ≤ 2 * n
    two_each zero = omega arith
    two_each (suc n) = omega (arith, next n 2 (λ _. two_at_most (suc n)), two_each n)

    one_each : (n : ℕ) → half ≤ n → n < 2 ^ depth → count n ≤ n + half
    one_each zero from inner = omega arith
    one_each (suc n) from inner = elim (cases_lt n half) [
      | inl first ↦ omega (arith, first, from, two_each (suc n))
      | inr further ↦ omega (arith, next n 1 (lowest_one (suc n) (omega (arith, further)) inner), one_each n further (omega (arith, inner)))
    ]

  pub are_few : 1 ≤ depth → length (node_wraps depth batches (epoch + 1)) ≤ 3 * 2 ^ (depth - 1)
  are_few deep =
      let half = 2 ^ (depth - 1) in
      let whole : depth - 1 + 1 ≡ depth = omega arith in
      let double : 2 ^ depth ≡ half * 2 = ap (λ n. 2 ^ n) (sym whole) ∙ pow_more 2 (depth - 1) in
      let some : 1 ≤ half = omega (arith, pow_pos (depth - 1)) in
      omega (arith, ap length (node_wraps-is depth epoch batches), one_each half double some (2 ^ depth - 1) (omega arith) (omega arith), double, some)
