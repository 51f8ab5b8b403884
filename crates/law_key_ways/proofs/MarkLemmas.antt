-- Positions above leaves that pass a test.
use Rattle.std.proofs.Common.{◌≡◌, ℕ, ◌+◌, ◌^◌, ◌<◌, Bool, true, false, ◌&&◌, List, length, get_or, sym, ap, ◌∙◌, arith}
use Rattle.std.specs.List.{enumerate_from}
use Rattle.std.proofs.lemmas.Bool.{and_from, and_parts}
use Rattle.std.proofs.lemmas.List.{get_or_read}
use Rattle.std.proofs.lemmas.List.Folds.{Any-from_list_any, list_any_at}
use Rattle.std.proofs.lemmas.List.FromFn.{length-enumerate_from, get_or-enumerate_from}
use Rattle.group_terms.specs.Positions.{is_below, some_leaf_below}

module _ (depth : ℕ) (passes : List Bool) (v : ℕ) where
  abbrev test : ℕ × Bool → Bool
  test leaf = leaf.1 && is_below depth v leaf.0

  abbrev leaves : List (ℕ × Bool)
  leaves = enumerate_from (2 ^ depth) passes

  -- a leaf that passes marks what is above it
  pub marked : (i : ℕ) → i < length passes → get_or passes i false ≡ true → is_below depth v (2 ^ depth + i) ≡ true
      → some_leaf_below depth passes v ≡ true
  marked i low passes_there below =
      list_any_at test leaves i (0, false) (rw length-enumerate_from low)
      (ap test (get_or-enumerate_from (2 ^ depth) passes i (0, false) low)
      ∙ and_from (get_or passes i false) (is_below depth v (2 ^ depth + i)) passes_there below)

  -- a marked position is above a leaf that passes
  pub leaf_of_mark : some_leaf_below depth passes v ≡ true
      → (i : ℕ) × (i < length passes) × (get_or passes i false ≡ true) × (is_below depth v (2 ^ depth + i) ≡ true)
  leaf_of_mark mark =
      let found = Any-from_list_any test leaves mark in
      let i = found.0 in
      let low : i < length passes = omega (arith, found.2, length-enumerate_from (2 ^ depth) passes) in
      let at = sym (get_or-enumerate_from (2 ^ depth) passes i found.1 low) ∙ found.3 in
      let both = and_parts found.1.1 (is_below depth v found.1.0) found.4 in (
        i,
        low,
        sym (get_or_read passes i found.1.1 low (sym (ap (λ (leaf : ℕ × Bool). leaf.1) at)) false) ∙ both.0,
        ap (λ (leaf : ℕ × Bool). is_below depth v leaf.0) at ∙ both.1,
      )
