-- The first item of a list that passes, and two lists item by item.
-- What `find` gives of the second list belongs to an item of the first (`found_pair`), and each item of the first has one in the second (`has_pair`).
use Rattle.std.proofs.Common.{◌≡◌, ◌∙◌, ap, inl, inr, arith, refl, subst, sym, ℕ, zero, suc, ◌<◌, Bool, true, false, List, [], ◌∷◌, ◌++◌, length, get_or, Option, None, Some, if◌then◌else◌}
use Rattle.std.specs.Prelude.{Contains, is_some}
use Rattle.std.specs.List.{All, AllZip, find}
use Rattle.std.specs.Option.{option_or}
use Rattle.std.proofs.lemmas.Bool.{cases_Bool, false≢true}
use Rattle.std.proofs.lemmas.List.Elements.{All-cons, All-head, All-nil, All-tail}
use Rattle.std.proofs.lemmas.List.Folds.{find-append}
use Rattle.std.proofs.lemmas.Option.{none-some, same_Some}

module _ {A : Type 0} (p : A → Bool) where
  pub at_first : (x : A) (xs : List A) → p x ≡ true → find p (x ∷ xs) ≡ Some x
  at_first x xs is = ap (λ here. if here then Some x else find p xs) is

  pub after_first : (x : A) (xs : List A) → p x ≡ false → find p (x ∷ xs) ≡ find p xs
  after_first x xs is = ap (λ here. if here then Some x else find p xs) is

  -- what is found is one of the items, and passes
  pub found_has : (P : A → Type 0) (xs : List A) (x : A) → All P xs → find p xs ≡ Some x → P x
  found_has P [] x all is = absurd (none-some x is)
  found_has P (y ∷ xs) x all is = elim (cases_Bool (p y)) [
    | inl here ↦ subst P (same_Some y x (sym (at_first y xs here) ∙ is)) (All-head P y xs all)
    | inr other ↦ found_has P xs x (All-tail P y xs all) (sym (after_first y xs other) ∙ is)
  ]

  pub found_passes : (xs : List A) (x : A) → find p xs ≡ Some x → p x ≡ true
  found_passes [] x is = absurd (none-some x is)
  found_passes (y ∷ xs) x is = elim (cases_Bool (p y)) [
    | inl here ↦ ap p (sym (same_Some y x (sym (at_first y xs here) ∙ is))) ∙ here
    | inr other ↦ found_passes xs x (sym (after_first y xs other) ∙ is)
  ]

  -- where none is found, none passes
  pub none_passes : (xs : List A) → find p xs ≡ None → All (λ x. p x ≡ false) xs
  none_passes [] is = All-nil (λ x. p x ≡ false)
  none_passes (y ∷ xs) is = elim (cases_Bool (p y)) [
    | inl here ↦ absurd (none-some y (sym is ∙ at_first y xs here))
    | inr other ↦ All-cons (λ x. p x ≡ false) y xs other (none_passes xs (sym (after_first y xs other) ∙ is))
  ]

  -- that one is found: the first, a later one, one of the first of two lists, or one of the second
  pub some_first : (x : A) (xs : List A) → p x ≡ true → is_some (find p (x ∷ xs)) ≡ true
  some_first x xs is = ap is_some (at_first x xs is)

  pub some_later : (x : A) (xs : List A) → is_some (find p xs) ≡ true → is_some (find p (x ∷ xs)) ≡ true
  some_later x xs is = elim (cases_Bool (p x)) [
    | inl here ↦ some_first x xs here
    | inr other ↦ ap is_some (after_first x xs other) ∙ is
  ]

  either : (one other : Option A) → is_some one ≡ true → is_some (option_or one other) ≡ true
  either None other is = absurd (false≢true is)
  either (Some x) other is = refl

  or_other : (one other : Option A) → is_some other ≡ true → is_some (option_or one other) ≡ true
  or_other None other is = is
  or_other (Some x) other is = refl

  pub some_left : (xs ys : List A) → is_some (find p xs) ≡ true → is_some (find p (xs ++ ys)) ≡ true
  some_left xs ys is = ap is_some (find-append p xs ys) ∙ either (find p xs) (find p ys) is

  pub some_right : (xs ys : List A) → is_some (find p ys) ≡ true → is_some (find p (xs ++ ys)) ≡ true
  some_right xs ys is = ap is_some (find-append p xs ys) ∙ or_other (find p xs) (find p ys) is

-- ---- two lists, item by item

module _ {A B : Type 0} (R : A → B → Type 0) where
  -- what is found in the second belongs to an item of the first
  pub found_pair : (P : A → Type 0) (p : B → Bool) (xs : List A) (ys : List B) (y : B) → AllZip R xs ys → All P xs → find p ys ≡ Some y
      → (x : A) × R x y × P x
  found_pair P p [] [] y zip all is = absurd (none-some y is)
  found_pair P p [] (other ∷ ys) y zip all is = absurd zip
  found_pair P p (x ∷ xs) [] y zip all is = absurd zip
  found_pair P p (x ∷ xs) (other ∷ ys) y zip all is = elim (cases_Bool (p other)) [
    | inl here ↦ (x, subst (R x) (same_Some other y (sym (at_first p other ys here) ∙ is)) zip.0, All-head P x xs all)
    | inr later ↦ found_pair P p xs ys y zip.1 (All-tail P x xs all) (sym (after_first p other ys later) ∙ is)
  ]

  -- and an item of the first has one in the second, with what all of those have
  pair_at : (Q : B → Type 0) (xs : List A) (ys : List B) (x : A) (k : ℕ) → AllZip R xs ys → All Q ys → k < length xs → get_or xs k x ≡ x → (y : B) × R x y × Q y
  pair_at Q [] ys x k zip all low is = absurd (omega (arith, low))
  pair_at Q (first ∷ xs) [] x k zip all low is = absurd zip
  pair_at Q (first ∷ xs) (y ∷ ys) x zero zip all low is = (y, subst (λ x. R x y) is zip.0, All-head Q y ys all)
  pair_at Q (first ∷ xs) (y ∷ ys) x (suc k) zip all low is = pair_at Q xs ys x k zip.1 (All-tail Q y ys all) (omega (arith, low)) is

  pub has_pair : (Q : B → Type 0) (xs : List A) (ys : List B) (x : A) → AllZip R xs ys → All Q ys → Contains xs x → (y : B) × R x y × Q y
  has_pair Q xs ys x zip all c = pair_at Q xs ys x c.0 zip all c.1 c.2
