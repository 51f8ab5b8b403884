-- Marks of numbers.
-- The worklist ends by `bound - place`, with `length-le_from_distinct_below`.
use Rattle.std.proofs.Common.{◌≡◌, ℕ, ◌<◌, ◌≤◌, List, [], ◌∷◌, ◌++◌, Bool, true, false, ◌||◌, eqb, length, get_or, set, replicate, sym, ap}
use Rattle.std.proofs.Common.{◌∙◌, subst, inl, inr, arith}
use Rattle.std.specs.Prelude.{All, Contains, Decides}
use Rattle.std.specs.List.{list_any, IsDistinct}
use Rattle.std.proofs.lemmas.Cmp.{nat_eq_equiv}
use Rattle.std.proofs.Math.Bool.{or-false}
use Rattle.std.proofs.lemmas.Bool.{cases_lt, cases_eq, eq-eqb, ne_eqb, false≢true, or_right}
use Rattle.std.proofs.lemmas.Bool.Decides.{Decides-eqb}
use Rattle.std.proofs.lemmas.List.{get_or_past, get_or_read, get_or-set_same, get_or-set_other, get_or-replicate, length-replicate}
use Rattle.std.proofs.lemmas.List.Elements.{All-from_get_or, Contains-get_or}
use Rattle.std.proofs.lemmas.List.Folds.{list_any-append}
use Rattle.std.proofs.lemmas.Map.Keys.{IsDistinct-push}
use Rattle.std.proofs.lemmas.Map.Steps.{length-le_from_distinct_below}
use Rattle.sym_closure.specs.Private.Marks.{AreMarked}
use Rattle.sym_closure.proofs.FirstLemmas.{any_decides}

module _ (order : List ℕ) (marks : List Bool) (are : AreMarked order marks) where
  mark_decides : (number : ℕ) → Decides (get_or marks number false) (Contains order number)
  mark_decides number = subst (λ mark. Decides mark (Contains order number)) (sym (are.each number))
      (any_decides eqb Decides-eqb number order)

  below : (number : ℕ) → get_or marks number false ≡ true → number < length marks
  below number h = elim (cases_lt number (length marks)) [
    | inl low ↦ low
    | inr high ↦ absurd (false≢true (sym (get_or_past marks number false high) ∙ h))
  ]

  pub marked_below : All (λ number. number < length marks) order
  marked_below = All-from_get_or (λ number. number < length marks) order 0
      (λ place within. below (get_or order place 0) ((mark_decides (get_or order place 0)).1 (Contains-get_or order place 0 within)))

  pub marked_few : length order ≤ length marks
  marked_few = length-le_from_distinct_below order (length marks) are.once (λ number h. below number (are.each number ∙ h))

  -- a mark that was read
  module _ (number : ℕ) (mark : Bool) (within : number < length marks) (is : mark ≡ get_or marks number mark) where
    read : mark ≡ get_or marks number false
    read = get_or_read marks number mark within is false

    pub mark_read : Decides mark (Contains order number)
    mark_read = subst (λ mark. Decides mark (Contains order number)) (sym read) (mark_decides number)

    each_more : (other : ℕ) → get_or (set marks number true) other false ≡ list_any (eqb other) (order ++ number ∷ [])
    each_more other =
        let any_more : list_any (eqb other) (order ++ number ∷ []) ≡ (list_any (eqb other) order || (eqb other number || false)) =
        list_any-append (eqb other) order (number ∷ []) in
        elim (cases_eq other number) [
          | inl same ↦ (
              let here : eqb other number ≡ true = eq-eqb other number same in
              ap (λ at. get_or (set marks number true) at false) same
              ∙ get_or-set_same marks number true false within
              ∙ sym (any_more ∙ or_right (list_any (eqb other) order) (eqb other number || false) (ap (λ b. b || false) here))
              )
          | inr apart ↦ (
              let elsewhere : eqb other number ≡ false = ne_eqb other number apart in
              get_or-set_other marks number other true false apart
              ∙ are.each other
              ∙ sym (any_more ∙ ap (λ b. list_any (eqb other) order || (b || false)) elsewhere ∙ or-false (list_any (eqb other) order))
              )
        ]

    -- and one number more
    pub AreMarked-more : mark ≡ false → AreMarked (order ++ number ∷ []) (set marks number true)
    AreMarked-more unmarked = record {
      each = each_more;
      once = IsDistinct-push nat_eq_equiv order number are.once (sym (are.each number) ∙ sym read ∙ unmarked);
    }

-- no mark
pub AreMarked-none : (n : ℕ) → AreMarked [] (replicate n false)
unfolding IsDistinct
AreMarked-none n = record {
  each = λ number. elim (cases_lt number n) [
    | inl low ↦ get_or-replicate n number false false low
    | inr high ↦ get_or_past (replicate n false) number false (omega (arith, high, length-replicate n false))
  ];
  once = tt;
}
