-- The first item of two lists, one after the other.
use Rattle.std.proofs.Common.{◌≡◌, ◌∙◌, ap, inl, inr, sym, [], Bool, true, false, List, ◌∷◌, ◌++◌, None, Some, if◌then◌else◌}
use Rattle.std.specs.List.{find}
use Rattle.std.specs.Option.{option_or}
use Rattle.std.proofs.lemmas.Bool.{cases_Bool}
use Rattle.std.proofs.lemmas.List.Folds.{find-append}
use Rattle.std.proofs.lemmas.Option.{none-some, same_Some}

module _ {A : Type 0} (p : A → Bool) (first later : List A) where
  pub found_first : (x : A) → find p first ≡ Some x → find p (first ++ later) ≡ Some x
  found_first x is = find-append p first later ∙ ap (λ found. option_or found (find p later)) is

  pub found_later : find p first ≡ None → find p (first ++ later) ≡ find p later
  found_later is = find-append p first later ∙ ap (λ found. option_or found (find p later)) is

-- the first item of a list that has one more in front
module _ {A : Type 0} (p : A → Bool) (x : A) (xs : List A) where
  pub found_here : p x ≡ true → find p (x ∷ xs) ≡ Some x
  found_here is = ap (λ here. if here then Some x else find p xs) is

  pub found_after : p x ≡ false → find p (x ∷ xs) ≡ find p xs
  found_after is = ap (λ here. if here then Some x else find p xs) is

-- what is found passes
pub found_passes : {A : Type 0} (p : A → Bool) (xs : List A) (x : A) → find p xs ≡ Some x → p x ≡ true
found_passes p [] x is = absurd (none-some x is)
found_passes p (y ∷ xs) x is = elim (cases_Bool (p y)) [
  | inl here ↦ ap p (sym (same_Some y x (sym (found_here p y xs here) ∙ is))) ∙ here
  | inr other ↦ found_passes p xs x (sym (found_after p y xs other) ∙ is)
]
