-- A list that grows while it is read.
use Rattle.std.proofs.Common.{◌≡◌, ℕ, ◌+◌, ◌-◌, ◌<◌, ◌≤◌, List, ◌∷◌, ◌++◌, length, get_or, take, drop, sym, ap, subst, ◌∙◌, arith}
use Rattle.std.specs.List.{All}
use Rattle.std.proofs.lemmas.List.{drop_more, get_or-drop, get_or-take, length-drop, length-take, take-append-drop, take-append-le}

module _ {A : Type 0} (start now : List A) (begins : take (length start) now ≡ start) where
  pub no_shorter : length start ≤ length now
  no_shorter = omega (arith, sym (length-take (length start) now) ∙ ap length begins)

  -- what was there is there
  pub at_start : (i : ℕ) (d : A) → i < length start → get_or now i d ≡ get_or start i d
  at_start i d low = sym (get_or-take (length start) now i d low) ∙ ap (λ l. get_or l i d) begins

  pub left_at_start : (i : ℕ) (x : A) → i < length start → x ≡ get_or now i x → drop i start ≡ x ∷ drop (i + 1) start
  left_at_start i x low is = drop_more start i x low ∙ ap (λ y. y ∷ drop (i + 1) start) (sym (is ∙ at_start i x low))

  pub begins_more : (new : List A) → take (length now) new ≡ now → take (length start) new ≡ start
  begins_more new more =
      ap (take (length start)) (sym (take-append-drop (length now) new) ∙ ap (λ l. l ++ drop (length now) new) more)
      ∙ take-append-le (length start) now (drop (length now) new) no_shorter ∙ begins

  -- what each item from a place on has
  pub each_later : (P : A → Type 0) (first i : ℕ) (x : A) → All P (drop first start) → first ≤ i → i < length start → x ≡ get_or now i x → P x
  each_later P first i x all later low is =
      let here : first + (i - first) ≡ i = omega (arith, later) in
      let item : get_or (drop first start) (i - first) x ≡ x =
      get_or-drop first start (i - first) x ∙ ap (λ n. get_or start n x) here ∙ sym (is ∙ at_start i x low) in
      subst P item (all (i - first) x (omega (arith, length-drop first start, later, low)))
