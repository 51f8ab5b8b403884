-- The replies of a batch go to members of its epoch.
use Rattle.std.proofs.Common.{◌≡◌, ◌∙◌, ◌⊎◌, Bool, true, List, [], ◌∷◌, ◌++◌, length, map, refl, ap, subst, arith, inl, inr}
use Rattle.std.specs.Prelude.{Contains}
use Rattle.std.specs.List.{list_any}
use Rattle.std.proofs.lemmas.Bool.{or_left, or_right}
use Rattle.std.proofs.lemmas.List.{length-append, take_all}
use Rattle.std.proofs.lemmas.List.Elements.{Contains-append_cases, Contains-push_cases}
use Rattle.std.proofs.lemmas.Slice.Eq.{bytes_eq-Decides}
use Rattle.group_terms.specs.Changes.{joiners}
use Rattle.group_terms.specs.Names.{same_name}
use Rattle.group_model.specs.Growth.{IsReplyOf, RepliesGoToMembers}
use Rattle.group_model.specs.Places.{holders_at, holders_of, is_member}
use Rattle.group_model.specs.Replies.{reply_at}
use Rattle.group_model.proofs.JoinLemmas.{is_member-last}

no_item : {X : Type 0} (x : X) → Contains [] x → ⊥
no_item x c = omega (arith, c.1)

first_or_later : {X : Type 0} (y x : X) (xs : List X) → Contains (y ∷ xs) x → (y ≡ x) ⊎ Contains xs x
first_or_later y x xs c = elim (Contains-append_cases (y ∷ []) xs x c) [
  | inl here ↦ elim (Contains-push_cases [] y x here) [
    | inl none ↦ absurd (no_item x none)
    | inr is ↦ inl is
  ]
  | inr later ↦ inr later
]

-- what is in a list that was made of another, item by item, and whose item passes
made_of_passing : {X Y : Type 0} (f : X → Y) (p : X → X → Bool) → ((x : X) → p x x ≡ true) → (xs : List X) (y : Y) → Contains (map f xs) y
    → (x : X) × (list_any (p x) xs ≡ true) × (f x ≡ y)
made_of_passing f p itself [] y c = absurd (no_item y c)
made_of_passing f p itself (first ∷ xs) y c = elim (first_or_later (f first) y (map f xs) c) [
  | inl here ↦ (first, or_left (p first first) (list_any (p first) xs) (itself first), here)
  | inr later ↦ (let one = made_of_passing f p itself xs y later in (one.0, or_right (p one.0 first) (list_any (p one.0) xs) one.1, one.2))
]

pub to_members : RepliesGoToMembers
to_members depth first batches batch reply some late valid c =
    let longer = batches ++ batch ∷ [] in
    let long = length-append batches (batch ∷ []) in
    let to = made_of_passing (reply_at depth longer (length longer)) same_name (λ m. (bytes_eq-Decides m m).1 refl) (joiners batch) reply c in
    let comes : is_member (holders_at depth longer (length longer)) to.0 ≡ true =
    ap (λ list. is_member (holders_of depth list) to.0) (take_all (length longer) longer (omega arith))
    ∙ is_member-last depth batches batch to.0 valid
    ∙ or_left _ _ to.1 in
    subst (IsReplyOf depth first longer) to.2
    (record { some = some; begun = omega (arith, long); late = omega (arith, late, long); within = omega arith; member = comes; names = refl })
