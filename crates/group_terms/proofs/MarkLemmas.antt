-- Marks on positions, from the leaves up.
use Rattle.std.proofs.Common.{◌≡◌, ℕ, zero, suc, ◌+◌, ◌-◌, ◌*◌, ◌^◌, ◌<◌, ◌≤◌, Bool, true, false, ◌||◌, ◌&&◌, List, [], ◌∷◌, ◌++◌, length, map, get_or, set, replicate, sym, refl, ap, ◌∙◌, arith, inl, inr}
use Rattle.std.specs.List.{list_any, enumerate_from, range_with_len}
use Rattle.std.proofs.lemmas.Bool.{and_right, eq-eqb, ne_eqb, cases_eq}
use Rattle.std.proofs.lemmas.Grind.{pow_more}
use Rattle.std.proofs.lemmas.List.{length-append, length-replicate, length-set, get_or-replicate, get_or_append_left, get_or-append_right, get_or-set_same, get_or-set_other}
use Rattle.std.proofs.lemmas.List.FromFn.{fill_by_all}
use Rattle.group_terms.specs.Positions.{is_below, some_leaf_below}
use Rattle.group_terms.proofs.BelowLemmas.{pow_pos, or_none, zero_not_above, greater_not_above, below_leaf, below_children}

module _ (depth : ℕ) where
  -- the leaves of a list, counted from one of them
  abbrev pub marked_below : ℕ → List Bool → ℕ → Bool
  marked_below first passes v = list_any (λ leaf. leaf.1 && is_below depth v leaf.0) (enumerate_from first passes)

  pub zero_unmarked : (first : ℕ) (passes : List Bool) → 2 ^ depth ≤ first → marked_below first passes 0 ≡ false
  zero_unmarked first [] leaf = refl
  zero_unmarked first (pass ∷ passes) leaf =
      or_none _ _ (and_right _ _ (zero_not_above depth first leaf)) (zero_unmarked (first + 1) passes (omega arith))

  pub greater_unmarked : (first : ℕ) (passes : List Bool) (v : ℕ) → first + length passes ≤ v → marked_below first passes v ≡ false
  greater_unmarked first [] v past = refl
  greater_unmarked first (pass ∷ passes) v past =
      or_none _ _ (and_right _ _ (greater_not_above depth v first (omega arith))) (greater_unmarked (first + 1) passes v (omega arith))

  and_or_apart : (pass p q more_p more_q : Bool) → ((pass && (p || q)) || (more_p || more_q)) ≡ (((pass && p) || more_p) || ((pass && q) || more_q))
  and_or_apart false p q more_p more_q = refl
  and_or_apart true true q more_p more_q = refl
  and_or_apart true false true true more_q = refl
  and_or_apart true false true false more_q = refl
  and_or_apart true false false more_p more_q = refl

  pub children_marked : (first : ℕ) (passes : List Bool) (v : ℕ) → 0 < v → v < 2 ^ depth → 2 ^ depth ≤ first → first + length passes ≤ 2 ^ (depth + 1) → marked_below first passes v ≡ (marked_below first passes (2 * v) || marked_below first passes (2 * v + 1))
  children_marked first [] v p inner leaf few = refl
  children_marked first (pass ∷ passes) v p inner leaf few =
      rw (below_children depth v first p inner leaf (omega arith), children_marked (first + 1) passes v p inner (omega arith) (omega arith))
      (and_or_apart pass (is_below depth (2 * v) first) (is_below depth (2 * v + 1) first) (marked_below (first + 1) passes (2 * v)) (marked_below (first + 1) passes (2 * v + 1)))

  -- no leaf from here on is v
  leaf_passed : (first : ℕ) (passes : List Bool) (v : ℕ) → 2 ^ depth ≤ v → v < first → first + length passes ≤ 2 ^ (depth + 1) → marked_below first passes v ≡ false
  leaf_passed first [] v leaf past few = refl
  leaf_passed first (pass ∷ passes) v leaf past few =
      or_none _ _ (and_right _ _ (below_leaf depth v first leaf (omega arith) ∙ ne_eqb first v (λ e. absurd (omega (arith, e, past))))) (leaf_passed (first + 1) passes v leaf (omega arith) (omega arith))

  passed_alone : (pass : Bool) → ((pass && true) || false) ≡ pass
  passed_alone true = refl
  passed_alone false = refl

  none_before : (pass more : Bool) → ((pass && false) || more) ≡ more
  none_before true more = refl
  none_before false more = refl

  pub leaf_marked : (first : ℕ) (passes : List Bool) (i : ℕ) → 2 ^ depth ≤ first → first + length passes ≤ 2 ^ (depth + 1) → i < length passes → marked_below first passes (first + i) ≡ get_or passes i false
  leaf_marked first [] i leaf few low = absurd (omega (arith, low))
  leaf_marked first (pass ∷ passes) zero leaf few low =
      rw (below_leaf depth (first + 0) first (omega arith) (omega arith), eq-eqb first (first + 0) (omega arith), leaf_passed (first + 1) passes (first + 0) (omega arith) (omega arith) (omega arith))
      (passed_alone pass)
  leaf_marked first (pass ∷ passes) (suc i) leaf few low =
      rw (below_leaf depth (first + suc i) first (omega arith) (omega arith), ne_eqb first (first + suc i) (λ e. absurd (omega (arith, e))))
      (none_before pass (marked_below (first + 1) passes (first + suc i)) ∙ ap (marked_below (first + 1) passes) (omega arith) ∙ leaf_marked (first + 1) passes i (omega arith) (omega arith) (omega arith))

-- Marks from the leaves up: those of the positions from v on are right.
pub record MarkedFrom (depth : ℕ) (leaves : List Bool) (v : ℕ) (marks : List Bool) : Type 0 where
  pub whole : length marks ≡ 2 ^ (depth + 1)
  pub none : get_or marks 0 false ≡ false
  pub right : (k : ℕ) → v ≤ k → k < 2 ^ (depth + 1) → get_or marks k false ≡ some_leaf_below depth leaves k

pub MarkedFrom-leaves : (depth : ℕ) (leaves : List Bool) → length leaves ≡ 2 ^ depth → MarkedFrom depth leaves (2 ^ depth) (replicate (2 ^ depth) false ++ leaves)
MarkedFrom-leaves depth leaves same = record {
  whole = rw (length-append, length-replicate) (omega (arith, same, pow_more 2 depth));
  none = get_or_append_left (replicate (2 ^ depth) false) leaves false 0 (rw length-replicate (pow_pos depth)) ∙ get_or-replicate (2 ^ depth) 0 false false (pow_pos depth);
  right = λ k from to.
      get_or-append_right (replicate (2 ^ depth) false) leaves (2 ^ depth) k false (length-replicate (2 ^ depth) false) from
      ∙ sym (leaf_marked depth (2 ^ depth) leaves (k - 2 ^ depth) (omega arith) (omega (arith, same, pow_more 2 depth)) (omega (arith, same, to, from, pow_more 2 depth)))
      ∙ ap (some_leaf_below depth leaves) (omega (arith, from));
}

pub MarkedFrom-more : (depth : ℕ) (leaves marks : List Bool) (v : ℕ) (left right : Bool) → length leaves ≡ 2 ^ depth → 0 < v → v < 2 ^ depth → left ≡ get_or marks (2 * v) false → right ≡ get_or marks (2 * v + 1) false → MarkedFrom depth leaves (v + 1) marks → MarkedFrom depth leaves v (set marks v (left || right))
MarkedFrom-more depth leaves marks v left right same p inner at_left at_right h = record {
  whole = length-set marks v (left || right) ∙ h.whole;
  none = get_or-set_other marks v 0 (left || right) false (λ e. absurd (omega (arith, e, p))) ∙ h.none;
  right = λ k from to. elim (cases_eq k v) [
    | inl here ↦ rw here (get_or-set_same marks v (left || right) false (omega (arith, inner, h.whole, pow_more 2 depth)) ∙ ap (λ b. b || right) (at_left ∙ h.right (2 * v) (omega (arith, p)) (omega (arith, inner, pow_more 2 depth))) ∙ ap (λ b. some_leaf_below depth leaves (2 * v) || b) (at_right ∙ h.right (2 * v + 1) (omega (arith, p)) (omega (arith, inner, pow_more 2 depth))) ∙ sym (children_marked depth (2 ^ depth) leaves v p inner (omega arith) (omega (arith, same, pow_more 2 depth))))
    | inr other ↦ get_or-set_other marks v k (left || right) false other ∙ h.right k (omega (arith, from, other)) to
  ];
}

pub MarkedFrom-later : (depth : ℕ) (leaves marks : List Bool) (v w : ℕ) → v ≤ w → MarkedFrom depth leaves v marks → MarkedFrom depth leaves w marks
MarkedFrom-later depth leaves marks v w le h = record { whole = h.whole; none = h.none; right = λ k from to. h.right k (omega arith) to }

pub MarkedFrom-all : (depth : ℕ) (leaves marks : List Bool) → MarkedFrom depth leaves 1 marks → marks ≡ map (some_leaf_below depth leaves) (range_with_len 0 (2 ^ (depth + 1)))
MarkedFrom-all depth leaves marks h =
    fill_by_all (some_leaf_below depth leaves) marks (2 ^ (depth + 1)) false h.whole (λ k small. elim (cases_eq k 0) [
      | inl root ↦ rw root (h.none ∙ sym (zero_unmarked depth (2 ^ depth) leaves (omega arith)))
      | inr other ↦ h.right k (omega (arith, other)) small
    ])
