-- Where an item of a list comes first.
use Rattle.std.proofs.Common.{◌≡◌, ℕ, suc, ◌+◌, ◌<◌, List, [], ◌∷◌, ◌++◌, Bool, false, cond, Option, Some, None, length, get_or, sym, refl}
use Rattle.std.proofs.Common.{ap, ◌∙◌, subst, inl, inr, arith}
use Rattle.std.specs.Prelude.{Contains, Decides, MatchOption, is_some}
use Rattle.std.specs.List.{position_from}
use Rattle.std.proofs.lemmas.Bool.{cases_Bool, false≢true, false_from_ne_true}
use Rattle.std.proofs.lemmas.Option.{none-some, same_Some}
use Rattle.sym_closure.proofs.FirstLemmas.{no_item}
use Rattle.sym_closure.proofs.ContainLemmas.{Contains-cases}

module _ {X : Type 0} (test : X → Bool) where
  -- one item more, where none passed before
  position_from-push_first : (i : ℕ) (xs : List X) (x : X) → position_from test i xs ≡ None
      → position_from test i (xs ++ x ∷ []) ≡ cond (test x) (Some (i + length xs)) None
  position_from-push_first i [] x h = ap (λ n. cond (test x) (Some n) None) (let e : i ≡ i + 0 = omega arith in e)
  position_from-push_first i (y ∷ ys) x h = elim (cases_Bool (test y)) [
    | inl passes ↦ absurd (none-some i (sym h ∙ ap (λ b. cond b (Some i) (position_from test (i + 1) ys)) passes))
    | inr fails ↦
        ap (λ b. cond b (Some i) (position_from test (i + 1) (ys ++ x ∷ []))) fails
        ∙ position_from-push_first (i + 1) ys x (sym (ap (λ b. cond b (Some i) (position_from test (i + 1) ys)) fails) ∙ h)
        ∙ ap (λ n. cond (test x) (Some n) None) (let e : i + 1 + length ys ≡ i + suc (length ys) = omega arith in e)
  ]

  -- one item more, which does not pass
  position_from-push_other : (i : ℕ) (xs : List X) (x : X) → test x ≡ false → position_from test i (xs ++ x ∷ []) ≡ position_from test i xs
  position_from-push_other i [] x h = ap (λ b. cond b (Some i) None) h
  position_from-push_other i (y ∷ ys) x h = ap (λ rest. cond (test y) (Some i) rest) (position_from-push_other (i + 1) ys x h)

-- where items are equal if they are the same
module _ {X : Type 0} (eq : X → X → Bool) (exact : (a b : X) → Decides (eq a b) (a ≡ b)) (x : X) where
  found : (i : ℕ) (xs : List X) (n : ℕ) → position_from (eq x) i xs ≡ Some n → (k : ℕ) × (n ≡ i + k) × (k < length xs) × (get_or xs k x ≡ x)
  found i [] n h = absurd (none-some n h)
  found i (y ∷ ys) n h = elim (cases_Bool (eq x y)) [
    | inl passes ↦ (
        let at : i ≡ n = same_Some i n (sym (ap (λ b. cond b (Some i) (position_from (eq x) (i + 1) ys)) passes) ∙ h) in
        (0, omega (arith, at), omega arith, sym ((exact x y).0 passes))
        )
    | inr fails ↦ (
        let later = found (i + 1) ys n (sym (ap (λ b. cond b (Some i) (position_from (eq x) (i + 1) ys)) fails) ∙ h) in
        (suc later.0, omega (arith, later.1), omega (arith, later.2), later.3)
        )
  ]

  missing : (i : ℕ) (xs : List X) → position_from (eq x) i xs ≡ None → Contains xs x → ⊥
  missing i [] h c = no_item x c
  missing i (y ∷ ys) h c = elim (cases_Bool (eq x y)) [
    | inl passes ↦ none-some i (sym h ∙ ap (λ b. cond b (Some i) (position_from (eq x) (i + 1) ys)) passes)
    | inr fails ↦ elim (Contains-cases y x ys c) [
      | inl here ↦ false≢true (sym fails ∙ (exact x y).1 (sym here))
      | inr later ↦ missing (i + 1) ys (sym (ap (λ b. cond b (Some i) (position_from (eq x) (i + 1) ys)) fails) ∙ h) later
    ]
  ]

  -- what the place of an item is
  pub place_is : (xs : List X) (place : Option ℕ) → place ≡ position_from (eq x) 0 xs
      → MatchOption place (Contains xs x → ⊥) (λ n. (n < length xs) × (get_or xs n x ≡ x))
  place_is xs None h = missing 0 xs (sym h)
  place_is xs (Some n) h =
      let at = found 0 xs n (sym h) in
      let same : at.0 ≡ n = omega (arith, at.1) in
      subst (λ n. (n < length xs) × (get_or xs n x ≡ x)) same (at.2, at.3)

-- the places when one item more is there
module _ {X : Type 0} (eq : X → X → Bool) (exact : (a b : X) → Decides (eq a b) (a ≡ b)) where
  position_from-absent : (xs : List X) (x : X) → (Contains xs x → ⊥) → (place : Option ℕ) → place ≡ position_from (eq x) 0 xs → place ≡ None
  position_from-absent xs x new None h = refl
  position_from-absent xs x new (Some n) h = (let at = place_is eq exact x xs (Some n) h in absurd (new (n, at.0, at.1)))

  places-more : (xs : List X) (x : X) → (Contains xs x → ⊥) → (q : X)
      → cond (eq x q) (Some (length xs)) (position_from (eq q) 0 xs) ≡ position_from (eq q) 0 (xs ++ x ∷ [])
  places-more xs x new q = elim (cases_Bool (eq x q)) [
    | inl same ↦ (
        let is : x ≡ q = (exact x q).0 same in
        let none : position_from (eq q) 0 xs ≡ None = position_from-absent xs q (λ there. new (subst (Contains xs) (sym is) there))
        (position_from (eq q) 0 xs) refl in
        ap (λ b. cond b (Some (length xs)) (position_from (eq q) 0 xs)) same
        ∙ ap Some (let e : length xs ≡ 0 + length xs = omega arith in e)
        ∙ sym (ap (λ b. cond b (Some (0 + length xs)) None) ((exact q x).1 (sym is)))
        ∙ sym (position_from-push_first (eq q) 0 xs x none)
        )
    | inr apart ↦ (
        let other : eq q x ≡ false = false_from_ne_true (eq q x) (λ same. false≢true (sym apart ∙ (exact x q).1 (sym ((exact q x).0 same))))
        in
        ap (λ b. cond b (Some (length xs)) (position_from (eq q) 0 xs)) apart ∙ sym (position_from-push_other (eq q) 0 xs x other)
        )
  ]

  -- what is read at an item, when a new one was put at the end with its place
  pub places_read : (xs : List X) (x : X) → (Contains xs x → ⊥) → (new : List X) → new ≡ xs ++ x ∷ [] → (place : ℕ) → place ≡ length xs
      → (q : X) (before after : Option ℕ) → before ≡ position_from (eq q) 0 xs → after ≡ cond (eq x q) (Some place) before
      → after ≡ position_from (eq q) 0 new
  places_read xs x absent new grown place last q before after was is =
      is
      ∙ ap (λ old. cond (eq x q) (Some place) old) was
      ∙ ap (λ at. cond (eq x q) (Some at) (position_from (eq q) 0 xs)) last
      ∙ places-more xs x absent q
      ∙ ap (position_from (eq q) 0) (sym grown)

-- an item that has no place
pub no_place : {X : Type 0} (xs : List X) (x : X) (place : Option ℕ) → is_some place ≡ false
    → MatchOption place (Contains xs x → ⊥) (λ n. (n < length xs) × (get_or xs n x ≡ x)) → Contains xs x → ⊥
no_place xs x None h absent = absent
no_place xs x (Some n) h at = absurd (false≢true (sym h))
