-- Sums over all views, where one view changes, one is cut in two, or two become one.
-- "Each ticket in just one view" is a sum: two views with one ticket give 2 ≤ 1 (`sum-two`), and who has all pass numbers leaves none (`sum-alone`). Both sides
-- take what was served before as a term, so a bound that moves needs no cases (`below-next`).
use Rattle.std.proofs.Common.{◌≡◌, ◌≢◌, ℕ, zero, suc, ◌+◌, ◌<◌, ◌≤◌, eqb, List, [], ◌∷◌, ◌++◌, map, set, sum_by, sym, refl, ap, eq-eqb, arith}
use Rattle.std.proofs.lemmas.Bool.{lt-ltb, le-ltb, ne_eqb}
use Rattle.std.proofs.lemmas.List.Sums.{sum_by-cons, sum_by_push}
use mathlib.Core.Logic.{dite}
use mathlib.Core.Option.{some, some-injective, some-ne-none}
use native.Mathlib.Decide.{ℕ_discrete, dec_lt}
use lib.ListN.{get_elem?}
use Rattle.desk.specs.Turns.{below, one_if}

module _ {X : Type 0} (f : X → ℕ) where
  pub sum-set : (xs : List X) (i : ℕ) (x y : X) → get_elem? xs i ≡ some x → sum_by f (set xs i y) + f x ≡ sum_by f xs + f y
  sum-set [] i x y e = absurd (some-ne-none x (sym e))
  sum-set (z ∷ xs) zero x y e = let p = sum_by-cons f y xs in let q = sum_by-cons f z xs in let r = ap f (some-injective z x e) in omega (arith, p, q, r)
  sum-set (z ∷ xs) (suc i) x y e = let h = sum-set xs i x y e in let p = sum_by-cons f z (set xs i y) in let q = sum_by-cons f z xs in omega (arith, p, q, h)

  pub sum-same : (xs : List X) (i : ℕ) (x y : X) → get_elem? xs i ≡ some x → f y ≡ f x → sum_by f (set xs i y) ≡ sum_by f xs
  sum-same xs i x y e same = let h = sum-set xs i x y e in omega (arith, h, same)

  pub sum-within : (xs : List X) (i : ℕ) (x : X) → get_elem? xs i ≡ some x → f x ≤ sum_by f xs
  sum-within [] i x e = absurd (some-ne-none x (sym e))
  sum-within (z ∷ xs) zero x e = let q = sum_by-cons f z xs in let r = ap f (some-injective z x e) in omega (arith, q, r)
  sum-within (z ∷ xs) (suc i) x e = let h = sum-within xs i x e in let q = sum_by-cons f z xs in omega (arith, q, h)

  pub sum-two : (xs : List X) (i j : ℕ) (x y : X) → i ≢ j → get_elem? xs i ≡ some x → get_elem? xs j ≡ some y → f x + f y ≤ sum_by f xs
  sum-two [] i j x y n e d = absurd (some-ne-none x (sym e))
  sum-two (z ∷ xs) zero zero x y n e d = absurd (n refl)
  sum-two (z ∷ xs) zero (suc j) x y n e d = let h = sum-within xs j y d in let q = sum_by-cons f z xs in let r = ap f (some-injective z x e) in omega (arith, q, r, h)
  sum-two (z ∷ xs) (suc i) zero x y n e d = let h = sum-within xs i x e in let q = sum_by-cons f z xs in let r = ap f (some-injective z y d) in omega (arith, q, r, h)
  sum-two (z ∷ xs) (suc i) (suc j) x y n e d = let h = sum-two xs i j x y (λ p. n (ap suc p)) e d in let q = sum_by-cons f z xs in omega (arith, q, h)

  pub sum-none : (xs : List X) → ((j : ℕ) (y : X) → get_elem? xs j ≡ some y → f y ≡ 0) → sum_by f xs ≡ 0
  sum-none [] h = refl
  sum-none (z ∷ xs) h = let q = sum_by-cons f z xs in let r = h 0 z refl in let s = sum-none xs (λ j. h (suc j)) in omega (arith, q, r, s)

  pub sum-alone : (xs : List X) (i : ℕ) (x : X) → get_elem? xs i ≡ some x → ((j : ℕ) (y : X) → j ≢ i → get_elem? xs j ≡ some y → f y ≡ 0) → sum_by f xs ≡ f x
  sum-alone [] i x e h = absurd (some-ne-none x (sym e))
  sum-alone (z ∷ xs) zero x e h = let q = sum_by-cons f z xs in let r = ap f (some-injective z x e) in let s = sum-none xs (λ j y d. h (suc j) y (λ p. omega arith) d) in omega (arith, q, r, s)
  sum-alone (z ∷ xs) (suc i) x e h = let q = sum_by-cons f z xs in let r = h 0 z (λ p. omega arith) refl in let s = sum-alone xs i x e (λ j y n d. h (suc j) y (λ p. n (omega arith)) d) in omega (arith, q, r, s)

  pub sum-split : (xs : List X) (i : ℕ) (x y z : X) → get_elem? xs i ≡ some x → f y + f z ≡ f x → sum_by f (set xs i y ++ z ∷ []) ≡ sum_by f xs
  sum-split xs i x y z e cut = let h = sum-set xs i x y e in let p = sum_by_push f (set xs i y) z in omega (arith, h, p, cut)

  pub sum-join : (xs : List X) (i j : ℕ) (x y both spent : X) → get_elem? xs i ≡ some x → get_elem? (set xs i both) j ≡ some y → f both ≡ f x + f y → f spent ≡ 0 → sum_by f (set (set xs i both) j spent) ≡ sum_by f xs
  sum-join xs i j x y both spent e d added nothing = let h = sum-set xs i x both e in let p = sum-set (set xs i both) j y spent d in omega (arith, h, p, added, nothing)

  pub sum-map : {Y : Type 0} (g : Y → X) (ys : List Y) → sum_by f (map g ys) ≡ sum_by (λ y. f (g y)) ys
  sum-map g [] = refl
  sum-map g (y ∷ ys) = let p = sum_by-cons f (g y) (map g ys) in let q = sum_by-cons (λ z. f (g z)) y ys in let h = sum-map g ys in omega (arith, p, q, h)

module _ {X : Type 0} (f g : X → ℕ) where
  pub sum-le : (xs : List X) → ((j : ℕ) (y : X) → get_elem? xs j ≡ some y → f y ≤ g y) → sum_by f xs ≤ sum_by g xs
  sum-le [] h = omega arith
  sum-le (z ∷ xs) h = let p = sum_by-cons f z xs in let q = sum_by-cons g z xs in let r = h 0 z refl in let s = sum-le xs (λ j. h (suc j)) in omega (arith, p, q, r, s)

pub below-yes : (n b : ℕ) → n < b → below n b ≡ 1
below-yes n b l = ap one_if (lt-ltb n b l)

pub below-no : (n b : ℕ) → b ≤ n → below n b ≡ 0
below-no n b l = ap one_if (le-ltb n b l)

pub below-small : (n b : ℕ) → below n b ≤ 1
below-small n b = dite (dec_lt n b) (λ l. let p = below-yes n b l in omega (arith, p)) (λ l. let p = below-no n b (omega arith) in omega (arith, p))

pub below-from : (n b : ℕ) → 1 ≤ below n b → n < b
below-from n b h = dite (dec_lt n b) (λ l. l) (λ l. let p = below-no n b (omega arith) in absurd (omega (arith, p, h)))

pub is-yes : (n : ℕ) → one_if (eqb n n) ≡ 1
is-yes n = ap one_if (eq-eqb n n refl)

pub below-next : (n b : ℕ) → below n (b + 1) ≡ below n b + one_if (eqb b n)
below-next n b = dite (ℕ_discrete b n)
    (λ e. let p = below-yes n (b + 1) (omega arith) in let q = below-no n b (omega arith) in let r = ap one_if (eq-eqb b n e) in omega (arith, p, q, r))
    (λ ne. let r = ap one_if (ne_eqb b n ne) in dite (dec_lt n b)
    (λ l. let p = below-yes n (b + 1) (omega arith) in let q = below-yes n b l in omega (arith, p, q, r))
    (λ l. let p = below-no n (b + 1) (omega arith) in let q = below-no n b (omega arith) in omega (arith, p, q, r)))
