-- What is taken of the keys for a path is what is taken of all.
-- `find p (filter q xs) ≡ find p xs` where what q leaves out never passes p (`found_kept`), so no promise speaks of what is gathered.
use Rattle.std.proofs.Common.{◌≡◌, ◌∙◌, ap, inl, inr, sym, true, false, Bool, List, [], ◌∷◌, ◌++◌, Option, Some, if◌then◌else◌, refl}
use Rattle.std.specs.List.{filter, find}
use Rattle.std.proofs.lemmas.Bool.{cases_Bool}
use Rattle.group_terms.specs.declared.paths.PathKey.{PathKey}
use Rattle.kd_wire.specs.declared.updates.SealedKey.{SealedKey}
use Rattle.member_store.specs.Private.Dues.{is_due}
use Rattle.member_store.specs.Takings.{Takes, TakesAfter, TakesNext, can_take}
use Rattle.member_store.proofs.FindLemmas.{found_after}

module _ {A : Type 0} (p q : A → Bool) (stays : (x : A) → q x ≡ false → p x ≡ false) where
  kept_here : (x : A) (xs : List A) → q x ≡ true → find p (filter q (x ∷ xs)) ≡ find p (x ∷ filter q xs)
  kept_here x xs is = ap (λ (b : Bool). find p (if b then x ∷ filter q xs else filter q xs)) is

  left_out : (x : A) (xs : List A) → q x ≡ false → find p (filter q (x ∷ xs)) ≡ find p (filter q xs)
  left_out x xs is = ap (λ (b : Bool). find p (if b then x ∷ filter q xs else filter q xs)) is

  in_front : (x : A) (xs ys : List A) → find p xs ≡ find p ys → find p (x ∷ xs) ≡ find p (x ∷ ys)
  in_front x xs ys same = ap (λ (found : Option A). if p x then Some x else found) same

  -- where nothing that is left out passes, the first that passes is the same
  pub found_kept : (xs : List A) → find p (filter q xs) ≡ find p xs
  found_kept [] = refl
  found_kept (x ∷ xs) = elim (cases_Bool (q x)) [
    | inl is ↦ kept_here x xs is ∙ in_front x (filter q xs) xs (found_kept xs)
    | inr is ↦ left_out x xs is ∙ (found_kept xs ∙ sym (found_after p x xs (stays x is)))
  ]

module _ (path : List PathKey) (given : List SealedKey) where
  other_stays : (taken : List PathKey) (key : SealedKey) → is_due path key ≡ false → can_take path taken key ≡ false
  other_stays taken key is = rw is refl

  same_find : (taken : List PathKey) → find (can_take path taken) (filter (is_due path) given) ≡ find (can_take path taken) given
  same_find taken = found_kept (can_take path taken) (is_due path) (other_stays taken) given

  same_next : (taken : List PathKey) (key : PathKey) → TakesNext path taken (filter (is_due path) given) key → TakesNext path taken given key
  same_next taken key next = record {
    first = next.first;
    is_first = sym (same_find taken) ∙ next.is_first;
    by = next.by;
    seals = next.seals;
    unsealed = next.unsealed;
  }

  takes_after_of_dues : (taken keys : List PathKey) → TakesAfter path (filter (is_due path) given) taken keys → TakesAfter path given taken keys
  takes_after_of_dues taken [] none = sym (same_find taken) ∙ none
  takes_after_of_dues taken (key ∷ keys) after = (same_next taken key after.0, takes_after_of_dues (taken ++ key ∷ []) keys after.1)

  pub takes_of_dues : (keys : List PathKey) → Takes path (filter (is_due path) given) keys → Takes path given keys
  takes_of_dues keys takes = takes_after_of_dues [] keys takes
