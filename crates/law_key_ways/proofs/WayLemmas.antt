-- The way from a leaf up to the root, a step at a time.
use Rattle.std.proofs.Common.{◌≡◌, ℕ, zero, suc, ◌+◌, ◌*◌, ◌/◌, ◌^◌, ◌<◌, ◌≤◌, true, eqb, sym, refl, ap, ◌∙◌, subst, arith, inl, inr, add-one}
use Rattle.std.proofs.lemmas.Bool.{cases_eq, eq-eqb, eqb-true, or_cases, or_left, or_right}
use Rattle.std.proofs.lemmas.Grind.{pow_more}
use Rattle.std.proofs.lemmas.Nat.{pow_pos}
use Rattle.group_terms.specs.Positions.{halved, is_below}

pow_suc : (n : ℕ) → 2 ^ suc n ≡ 2 ^ n * 2
pow_suc n = ap (λ k. 2 ^ k) (sym (add-one n)) ∙ pow_more 2 n

-- one step more, seen from the top
pub halved-suc : (k x : ℕ) → halved (suc k) x ≡ halved k x / 2
halved-suc zero x = refl
halved-suc (suc k) x = halved-suc k (x / 2)

halved_le : (k x : ℕ) → halved k x ≤ x
halved_le zero x = omega arith
halved_le (suc k) x = omega (arith, halved_le k (x / 2))

-- up to the root a step leads to a position
pub halved_positive : (k depth x : ℕ) → k ≤ depth → 2 ^ depth ≤ x → 1 ≤ halved k x
halved_positive zero depth x up from = omega (arith, from, pow_pos depth)
halved_positive (suc k) zero x up from = absurd (omega (arith, up))
halved_positive (suc k) (suc depth) x up from = halved_positive k depth (x / 2) (omega (arith, up)) (omega (arith, from, pow_suc depth))

-- what is above a leaf is none
pub halved_inner : (k depth x : ℕ) → x < 2 ^ (depth + 1) → halved (suc k) x < 2 ^ depth
halved_inner k depth x to = omega (arith, halved_le k (x / 2), to, pow_more 2 depth)

-- as many steps as the tree is deep lead past all positions but the root
halved_last : (depth x : ℕ) → x < 2 ^ (depth + 1) → halved depth x ≤ 1
halved_last zero x to = omega (arith, to)
halved_last (suc depth) x to = halved_last depth (x / 2) (omega (arith, to, pow_more 2 (suc depth), pow_suc depth, pow_more 2 depth))

pub halved_root : (depth x : ℕ) → 2 ^ depth ≤ x → x < 2 ^ (depth + 1) → halved depth x ≡ 1
halved_root depth x from to = omega (arith, halved_positive depth depth x (omega arith) from, halved_last depth x to)

-- what is so many steps up has the position that they began at below it
pub below_halved : (n k x : ℕ) → k ≤ n → is_below n (halved k x) x ≡ true
below_halved zero zero x up = eq-eqb x x refl
below_halved zero (suc k) x up = absurd (omega (arith, up))
below_halved (suc n) zero x up = or_left (eqb x x) (is_below n x (x / 2)) (eq-eqb x x refl)
below_halved (suc n) (suc k) x up =
    or_right (eqb x (halved k (x / 2))) (is_below n (halved k (x / 2)) (x / 2)) (below_halved n k (x / 2) (omega (arith, up)))

-- what has a position below it is some steps up
steps_up : (n v x : ℕ) → is_below n v x ≡ true → (k : ℕ) × (k ≤ n) × (halved k x ≡ v)
steps_up zero v x h = (0, omega arith, eqb-true x v h)
steps_up (suc n) v x h = elim (or_cases (eqb x v) (is_below n v (x / 2)) h) [
  | inl here ↦ (0, omega arith, eqb-true x v here)
  | inr above ↦ (let found = steps_up n v (x / 2) above in (suc found.0, omega (arith, found.1), found.2))
]

-- what stands below a position stands below the one above that
pub below_parent : (depth child x : ℕ) → 0 < child / 2 → x < 2 ^ (depth + 1) → is_below depth child x ≡ true → is_below depth (child / 2) x ≡ true
below_parent depth child x some to below =
    let found = steps_up depth child x below in
    let up : halved (suc found.0) x ≡ child / 2 = halved-suc found.0 x ∙ ap (λ v. v / 2) found.2 in
    let few : suc found.0 ≤ depth = elim (cases_eq found.0 depth) [
      | inl all ↦ absurd (omega (arith, some, ap (λ k. halved k x) all, found.2, halved_last depth x to))
      | inr less ↦ omega (arith, found.1, less)
    ] in
    subst (λ v. is_below depth v x ≡ true) up (below_halved depth (suc found.0) x few)

module _ (depth v x : ℕ) (to : x < 2 ^ (depth + 1)) (below : is_below depth v x ≡ true) where
  -- a leaf has no leaf below it but itself
  pub only_leaf : 2 ^ depth ≤ v → x ≡ v
  only_leaf leaf = (let found = steps_up depth v x below in at found.0 found.2)
    where
      at : (k : ℕ) → halved k x ≡ v → x ≡ v
      at zero is = is
      at (suc k) is = absurd (omega (arith, is, leaf, halved_inner k depth x to))

  -- a lowest inner position has its children alone
  pub only_child : (half : ℕ) → 2 ^ depth ≡ half * 2 → 2 ^ depth ≤ x → half ≤ v → v < 2 ^ depth → x / 2 ≡ v
  only_child half double from low inner = (let found = steps_up depth v x below in at found.0 found.2)
    where
      at : (k : ℕ) → halved k x ≡ v → x / 2 ≡ v
      at zero is = absurd (omega (arith, is, from, inner))
      at (suc zero) is = is
      at (suc (suc k)) is = absurd (omega (arith, is, low, double, to, pow_more 2 depth, halved_le k (x / 2 / 2)))
