-- Leaves and the positions above them.
use Rattle.std.proofs.Common.{◌≡◌, ℕ, zero, suc, ◌+◌, ◌/◌, ◌^◌, ◌<◌, ◌≤◌, Bool, true, false, ◌&&◌, List, [], ◌∷◌, length, get_or, refl, sym, ap, subst, ◌∙◌, arith, inl, inr}
use Rattle.std.specs.List.{enumerate_from, list_any}
use Rattle.std.proofs.lemmas.Bool.{cases_Bool, cases_lt, false≢true, or_parts}
use Rattle.std.proofs.lemmas.Grind.{pow_more}
use Rattle.std.proofs.lemmas.List.{get_or_past}
use Rattle.group_terms.specs.Positions.{halved, is_below, some_leaf_below}
use Rattle.group_terms.proofs.BelowLemmas.{test_from_halved}
use Rattle.group_terms.proofs.MarkLemmas.{leaf_marked}

pub halved_mono : (steps a b : ℕ) → a ≤ b → halved steps a ≤ halved steps b
halved_mono zero a b less = less
halved_mono (suc steps) a b less = halved_mono steps (a / 2) (b / 2) (omega (arith, less))

-- a position of a level is so many levels below one of the level above
pub halved_within : (steps rest x : ℕ) → 2 ^ (rest + steps) ≤ x → x < 2 ^ (rest + steps + 1) → (2 ^ rest ≤ halved steps x) × (halved steps x < 2 ^ (rest + 1))
halved_within zero rest x from to = (
  subst (λ n. 2 ^ n ≤ x) (omega arith) from,
  subst (λ n. x < 2 ^ n) (omega arith) to,
)
halved_within (suc steps) rest x from to =
    let low : rest + suc steps ≡ rest + steps + 1 = omega arith in
    let high : rest + suc steps + 1 ≡ rest + steps + 1 + 1 = omega arith in
    let from_two : 2 ^ (rest + steps + 1) ≤ x = subst (λ n. 2 ^ n ≤ x) low from in
    let to_two : x < 2 ^ (rest + steps + 1 + 1) = subst (λ n. x < 2 ^ n) high to in
    halved_within steps rest (x / 2) (omega (arith, from_two, pow_more 2 (rest + steps))) (omega (arith, to_two, pow_more 2 (rest + steps + 1)))

module _ (depth : ℕ) (leaves : List Bool) where
  abbrev pub leaf : ℕ → Bool
  leaf i = get_or leaves i false

module _ (depth : ℕ) (leaves : List Bool) (long : length leaves ≡ 2 ^ depth) where
  pub all_leaves : 2 ^ depth + length leaves ≤ 2 ^ (depth + 1)
  all_leaves = omega (arith, long, pow_more 2 depth)

  pub unmarked_from : (first : ℕ) (marks : List Bool) (v i : ℕ) → list_any (λ (leaf : ℕ × Bool). leaf.1 && is_below depth v leaf.0) (enumerate_from first marks) ≡ false
      → is_below depth v (first + i) ≡ true → get_or marks i false ≡ false
  unmarked_from first [] v i none below = refl
  unmarked_from first (mark ∷ marks) v zero none below =
      let parts = or_parts (mark && is_below depth v first) _ none in
      elim (cases_Bool mark) [
        | inl marked ↦ (
            let same : first ≡ first + zero = omega arith in
            absurd (false≢true (sym parts.0 ∙ (λ i. marked i && (ap (is_below depth v) same ∙ below) i)))
            )
        | inr unmarked ↦ unmarked
      ]
  unmarked_from first (mark ∷ marks) v (suc i) none below =
      let parts = or_parts (mark && is_below depth v first) _ none in
      let next : first + 1 + i ≡ first + suc i = omega arith in
      unmarked_from (first + 1) marks v i parts.1 (ap (is_below depth v) next ∙ below)

  -- no leaf is marked so many levels below a position that has none
  pub unmarked : (steps v i : ℕ) → 0 < v → some_leaf_below depth leaves v ≡ false → halved steps (2 ^ depth + i) ≡ v → leaf depth leaves i ≡ false
  unmarked steps v i some none is = elim (cases_lt i (length leaves)) [
    | inl low ↦ unmarked_from (2 ^ depth) leaves v i none (test_from_halved depth steps v (2 ^ depth + i) some (omega (arith, low, all_leaves)) is)
    | inr past ↦ get_or_past leaves i false past
  ]

  pub leaf_mark : (i : ℕ) → i < 2 ^ depth → some_leaf_below depth leaves (2 ^ depth + i) ≡ leaf depth leaves i
  leaf_mark i low = leaf_marked depth (2 ^ depth) leaves i (omega arith) all_leaves (omega (arith, low, long))
