-- Steps towards the root.
use Rattle.std.proofs.Common.{◌≡◌, ℕ, zero, suc, ◌+◌, ◌*◌, ◌/◌, ◌^◌, ◌<◌, ◌≤◌, Bool, true, false, eqb, ◌||◌, sym, refl, ap, ◌∙◌, arith, inl, inr, add-one}
use Rattle.std.proofs.lemmas.Bool.{or_cases, or_left, or_right, eqb-true, eq-eqb, ne_eqb, cases_eq, cases_lt, false_from_ne_true}
use Rattle.std.proofs.lemmas.Grind.{pow_more}
use Rattle.group_terms.specs.Positions.{halved, IsBelow, is_below}

pub pow_suc : (n : ℕ) → 2 ^ suc n ≡ 2 ^ n * 2
pow_suc n = ap (λ k. 2 ^ k) (sym (add-one n)) ∙ pow_more 2 n

pub pow_pos : (n : ℕ) → 0 < 2 ^ n
pow_pos zero = omega arith
pow_pos (suc n) = omega (arith, pow_pos n, pow_suc n)

pub or_none : (a b : Bool) → a ≡ false → b ≡ false → (a || b) ≡ false
or_none a b p q = rw (p, q) refl

or_false : (a b : Bool) → b ≡ false → (a || b) ≡ a
or_false true b q = refl
or_false false b q = q

or_both : (a b : Bool) → ((a || false) || (b || false)) ≡ (a || b)
or_both true b = refl
or_both false true = refl
or_both false false = refl

-- two tests that pass together give one answer
same_answers : (a b : Bool) → (a ≡ true → b ≡ true) → (b ≡ true → a ≡ true) → a ≡ b
same_answers true b f g = sym (f refl)
same_answers false true f g = g refl
same_answers false false f g = refl

-- 0 has nothing above it but itself
halved-zero : (n : ℕ) → halved n 0 ≡ 0
halved-zero zero = refl
halved-zero (suc n) = halved-zero n

-- one step more, seen from the top
pub halved-suc : (n x : ℕ) → halved (suc n) x ≡ halved n x / 2
halved-suc zero x = refl
halved-suc (suc n) x = halved-suc n (x / 2)

-- what the bounded search finds is above
pub IsBelow-from_test : (n v x : ℕ) → is_below n v x ≡ true → IsBelow v x
IsBelow-from_test zero v x h = (0, eqb-true x v h)
IsBelow-from_test (suc n) v x h = elim (or_cases _ _ h) [
  | inl same ↦ (0, eqb-true x v same)
  | inr more ↦ let b = IsBelow-from_test n v (x / 2) more in (suc b.0, b.1)
]

-- a step up from a level of the tree leads to the level above
pub half_below : (n x : ℕ) → x < 2 ^ (suc n + 1) → x / 2 < 2 ^ (n + 1)
half_below n x b = rw add-one (omega (arith, b, pow_more 2 (suc n)))

-- the bounded search finds what is above
pub test_from_halved : (n steps v x : ℕ) → 0 < v → x < 2 ^ (n + 1) → halved steps x ≡ v → is_below n v x ≡ true
test_from_halved zero zero v x p b h = eq-eqb x v h
test_from_halved (suc n) zero v x p b h = or_left _ _ (eq-eqb x v h)
test_from_halved zero (suc steps) v x p b h =
    let none : x / 2 ≡ 0 = omega arith in
    let zero_is : halved steps (x / 2) ≡ 0 = rw none (halved-zero steps) in
    absurd (omega (arith, zero_is, h))
test_from_halved (suc n) (suc steps) v x p b h =
    or_right _ _ (test_from_halved n steps v (x / 2) p (half_below n x b) h)

-- what stands below has no smaller number
pub above_le : (n v x : ℕ) → is_below n v x ≡ true → v ≤ x
above_le zero v x h = let e : x ≡ v = eqb-true x v h in omega arith
above_le (suc n) v x h = elim (or_cases _ _ h) [
  | inl same ↦ let e : x ≡ v = eqb-true x v same in omega arith
  | inr more ↦ let e : v ≤ x / 2 = above_le n v (x / 2) more in omega arith
]

-- a greater number stands above nothing
pub greater_not_above : (n v x : ℕ) → x < v → is_below n v x ≡ false
greater_not_above n v x h = false_from_ne_true (is_below n v x) (λ t. absurd (omega (arith, h, above_le n v x t)))

-- 0 is no position
pub zero_not_above : (n x : ℕ) → 2 ^ n ≤ x → is_below n 0 x ≡ false
zero_not_above zero x h = ne_eqb x 0 (λ e. absurd (omega (arith, h, e)))
zero_not_above (suc n) x h =
    or_none _ _ (ne_eqb x 0 (λ e. absurd (omega (arith, h, e, pow_pos n)))) (zero_not_above n (x / 2) (omega (arith, h, pow_suc n)))

-- of the leaves, each stands below itself alone
pub below_leaf : (n v x : ℕ) → 2 ^ n ≤ v → x < 2 ^ (n + 1) → is_below n v x ≡ eqb x v
below_leaf zero v x leaf small = refl
below_leaf (suc n) v x leaf small =
    let higher : x / 2 < 2 ^ (n + 1) = half_below n x small in
    or_false _ _ (greater_not_above n v (x / 2) (omega (arith, higher, leaf, pow_suc n, pow_more 2 n)))

-- half of a number is v where it is one of the children of v
half_eqb : (v x : ℕ) → eqb (x / 2) v ≡ (eqb x (2 * v) || eqb x (2 * v + 1))
half_eqb v x = same_answers _ _
    (λ h. let e : x / 2 ≡ v = eqb-true (x / 2) v h in elim (cases_eq x (2 * v)) [
      | inl left ↦ or_left _ _ (eq-eqb x (2 * v) left)
      | inr other ↦ or_right _ _ (eq-eqb x (2 * v + 1) (omega (arith, e, other)))
    ])
    (λ h. elim (or_cases _ _ h) [
      | inl left ↦ let e : x ≡ 2 * v = eqb-true x (2 * v) left in eq-eqb (x / 2) v (omega arith)
      | inr right ↦ let e : x ≡ 2 * v + 1 = eqb-true x (2 * v + 1) right in eq-eqb (x / 2) v (omega arith)
    ])

-- a leaf below an inner position stands below one of its children
pub below_children : (n v x : ℕ) → 0 < v → v < 2 ^ n → 2 ^ n ≤ x → x < 2 ^ (n + 1) → is_below n v x ≡ (is_below n (2 * v) x || is_below n (2 * v + 1) x)
below_children zero v x p inner leaf small = absurd (omega (arith, p, inner))
below_children (suc n) v x p inner leaf small =
    let half : x / 2 < 2 ^ (n + 1) = half_below n x small in
    let half_leaf : 2 ^ n ≤ x / 2 = omega (arith, leaf, pow_suc n) in
    let apart : eqb x v ≡ false = ne_eqb x v (λ e. absurd (omega (arith, e, inner, leaf))) in
    elim (cases_lt v (2 ^ n)) [
      | inl high ↦
          let left : eqb x (2 * v) ≡ false = ne_eqb x (2 * v) (λ e. absurd (omega (arith, e, high, leaf, pow_suc n))) in
          let right : eqb x (2 * v + 1) ≡ false = ne_eqb x (2 * v + 1) (λ e. absurd (omega (arith, e, high, leaf, pow_suc n))) in
          rw (apart, left, right) (below_children n v (x / 2) p high half_leaf half)
      | inr low ↦
          let left : is_below n (2 * v) (x / 2) ≡ false = greater_not_above n (2 * v) (x / 2) (omega (arith, low, half, pow_suc n, pow_more 2 n)) in
          let right : is_below n (2 * v + 1) (x / 2) ≡ false = greater_not_above n (2 * v + 1) (x / 2) (omega (arith, low, half, pow_suc n, pow_more 2 n)) in
          rw (apart, left, right) (below_leaf n v (x / 2) low half ∙ half_eqb v x ∙ sym (or_both (eqb x (2 * v)) (eqb x (2 * v + 1))))
    ]
