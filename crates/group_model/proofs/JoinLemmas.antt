-- Who comes in with a batch has a leaf after it, and who goes out has none.
-- `1 + n` does not compute for a variable, so neither does a search past a first element: `placed-taken` is the equation that `rw` takes.
use Rattle.std.proofs.Common.{◌≡◌, ℕ, suc, ◌+◌, ◌<◌, ◌≤◌, Bool, true, false, not, ◌&&◌, ◌||◌, List, [], ◌∷◌, ◌++◌, Some, None, length, get_or, sym, refl, ap, ◌∙◌, arith, inl, inr}
use Rattle.std.specs.Prelude.{is_none, slice_set}
use Rattle.std.specs.List.{fold, list_any, list_all, position_or_len}
use Rattle.std.proofs.lemmas.Bool.{cases_Bool, or_cases, or_left, or_right, and_parts, not-true, false≢true, false_from_ne_true}
use Rattle.std.proofs.lemmas.List.{length-map, length-set}
use Rattle.group_terms.specs.Changes.{leavers, joiners}
use Rattle.group_terms.specs.Names.{Name, same_name}
use Rattle.group_terms.specs.declared.changes.Change.{Change}
use Rattle.group_model.specs.Places.{Holders, no_holders, holders_of, IsValid, is_held_by, is_member, vacated, placed, names_once, holders_after, Fits}
use Rattle.group_model.proofs.EpochLemmas.{length-fold, length-holders_after, fold-append_one, FitInTurn-last}
use Rattle.group_model.proofs.StayedLemmas.{same_name-is, same_name-self, none_of, held_after, and_true, and_false}
use Rattle.group_model.proofs.PlaceLemmas.{gone}
use Rattle.group_model.proofs.QueueLemmas.{members, members-count, members-vacated, all_vacated, leavers_once}

-- each of the members that lose their leaves, none twice, frees one
pub members-vacated_all : (holders : Holders) (names : List Name) → names_once names ≡ true → list_all (is_member holders) names ≡ true → members (fold vacated holders names) + length names ≤ members holders
members-vacated_all holders [] once h = omega arith
members-vacated_all holders (m ∷ names) once h =
    let first = and_parts (not (list_any (same_name m) names)) (names_once names) once in
    let each = and_parts (is_member holders m) (list_all (is_member holders) names) h in
    omega (arith, members-vacated m holders each.0, members-vacated_all (vacated holders m) names first.1 (all_vacated m holders names (not-true (list_any (same_name m) names) first.0) each.1))

-- a leaf that is taken is passed over
pub placed-taken : (m name : Name) (holders : Holders) → placed (Some name ∷ holders) m ≡ Some name ∷ placed holders m
placed-taken m name holders =
    let next : 1 + position_or_len is_none holders ≡ suc (position_or_len is_none holders) = omega arith in
    ap (λ i. slice_set (Some name ∷ holders) i (Some m)) next

-- a name that gets a leaf is at most one member more
pub members-placed : (m : Name) (holders : Holders) → members (placed holders m) ≤ members holders + 1
unfolding members
members-placed m [] = omega arith
members-placed m (None ∷ holders) = omega arith
members-placed m (Some name ∷ holders) = rw (placed-taken m name holders) (omega (arith, members-placed m holders))

-- where not each leaf is taken, the name has one
pub placed_member : (m : Name) (holders : Holders) → members holders < length holders → is_member (placed holders m) m ≡ true
unfolding members
placed_member m [] room = absurd (omega (arith, room))
placed_member m (None ∷ holders) room = or_left _ _ (same_name-self m)
placed_member m (Some name ∷ holders) room =
    rw (placed-taken m name holders) (or_right _ _ (placed_member m holders (omega (arith, room))))

-- a member has its leaf still when another name gets one
is_member-placed : (m n : Name) (holders : Holders) → is_member holders n ≡ true → is_member (placed holders m) n ≡ true
is_member-placed m n [] h = absurd (false≢true h)
is_member-placed m n (None ∷ holders) h = or_right _ _ h
is_member-placed m n (Some name ∷ holders) h = rw (placed-taken m name holders) (elim (or_cases (same_name n name) (is_member holders n) h) [
  | inl here ↦ or_left _ _ here
  | inr there ↦ or_right _ _ (is_member-placed m n holders there)
])

is_member-placed_all : (m : Name) (holders : Holders) (names : List Name) → is_member holders m ≡ true → is_member (fold placed holders names) m ≡ true
is_member-placed_all m holders [] h = h
is_member-placed_all m holders (n ∷ names) h = is_member-placed_all m (placed holders n) names (is_member-placed n m holders h)

-- where there is a free leaf for each of the names, each has one in the end
placed_all_members : (m : Name) (holders : Holders) (names : List Name) → members holders + length names ≤ length holders → list_any (same_name m) names ≡ true → is_member (fold placed holders names) m ≡ true
placed_all_members m holders [] room h = absurd (false≢true h)
placed_all_members m holders (n ∷ names) room h =
    let here : is_member (placed holders n) n ≡ true = placed_member n holders (omega (arith, room)) in
    let long : length (placed holders n) ≡ length holders = length-set holders (position_or_len is_none holders) (Some n) in
    elim (or_cases (same_name m n) (list_any (same_name m) names) h) [
      | inl same ↦ is_member-placed_all m (placed holders n) names (rw (same_name-is m n same) here)
      | inr later ↦ placed_all_members m (placed holders n) names (omega (arith, room, members-placed n holders, long)) later
    ]

-- who comes in with a batch that fits has a leaf after it
pub joins : (holders : Holders) (batch : List Change) (m : Name) → Fits holders batch → list_any (same_name m) (joiners batch) ≡ true → is_member (holders_after holders batch) m ≡ true
unfolding holders_after
joins holders batch m fits h =
    let long : length (fold vacated holders (leavers batch)) ≡ length holders = length-fold vacated (λ xs n. length-map xs _) holders (leavers batch) in
    placed_all_members m (fold vacated holders (leavers batch)) (joiners batch)
    (omega (arith, long, fits.room, members-count holders, members-vacated_all holders (leavers batch) (leavers_once batch fits.once) fits.from_members))
    h

-- what holds of all names holds of one of them
each_of : (test : Name → Bool) (m : Name) (names : List Name) → list_all test names ≡ true → list_any (same_name m) names ≡ true → test m ≡ true
each_of test m [] each found = absurd (false≢true found)
each_of test m (n ∷ names) each found =
    let parts = and_parts (test n) (list_all test names) each in
    elim (or_cases (same_name m n) (list_any (same_name m) names) found) [
      | inl same ↦ rw (same_name-is m n same) parts.0
      | inr later ↦ each_of test m names parts.1 later
    ]

-- who goes out with a batch that fits is no member after it: only members go out, and only strangers come in
pub leaves : (holders : Holders) (batch : List Change) (m : Name) → Fits holders batch → list_any (same_name m) (leavers batch) ≡ true → is_member (holders_after holders batch) m ≡ false
leaves holders batch m fits h =
    let member : is_member holders m ≡ true = each_of (is_member holders) m (leavers batch) fits.from_members h in
    gone holders batch m h (false_from_ne_true (list_any (same_name m) (joiners batch)) (λ comes. false≢true (sym (none_of (is_member holders) m (joiners batch) fits.from_strangers comes) ∙ member)))

-- the holders after the last batch of a list
holders_of-last : (depth : ℕ) (batches : List (List Change)) (batch : List Change) → holders_of depth (batches ++ batch ∷ []) ≡ holders_after (holders_of depth batches) batch
holders_of-last depth batches batch = fold-append_one holders_after (no_holders depth) batches batch

-- a test that agrees on two lists at each place finds something in both or in neither
list_any-agree : {A : Type 0} (p : A → Bool) (xs ys : List A) (d : A) → length xs ≡ length ys → ((i : ℕ) → p (get_or xs i d) ≡ p (get_or ys i d)) → list_any p xs ≡ list_any p ys
list_any-agree p [] [] d same agree = refl
list_any-agree p [] (y ∷ ys) d same agree = absurd (omega (arith, same))
list_any-agree p (x ∷ xs) [] d same agree = absurd (omega (arith, same))
list_any-agree p (x ∷ xs) (y ∷ ys) d same agree =
    ap (λ b. b || list_any p xs) (agree 0)
    ∙ ap (λ b. p y || b) (list_any-agree p xs ys d (omega (arith, same)) (λ i. agree (suc i)))

-- everybody else is a member where it was one before
remains : (holders : Holders) (batch : List Change) (m : Name) → list_any (same_name m) (joiners batch) ≡ false → list_any (same_name m) (leavers batch) ≡ false → is_member (holders_after holders batch) m ≡ is_member holders m
remains holders batch m stranger stays =
    list_any-agree (is_held_by m) (holders_after holders batch) holders None (length-holders_after holders batch) (λ i.
    held_after holders batch m i stranger ∙ ap (λ b. is_held_by m (get_or holders i None) && not b) stays ∙ and_true (is_held_by m (get_or holders i None)))

is_member-after : (holders : Holders) (batch : List Change) (m : Name) → Fits holders batch → is_member (holders_after holders batch) m ≡ (list_any (same_name m) (joiners batch) || (is_member holders m && not (list_any (same_name m) (leavers batch))))
is_member-after holders batch m fits = elim (cases_Bool (list_any (same_name m) (joiners batch))) [
  | inl comes ↦ joins holders batch m fits comes ∙ sym (ap (λ b. b || (is_member holders m && not (list_any (same_name m) (leavers batch)))) comes)
  | inr stranger ↦ elim (cases_Bool (list_any (same_name m) (leavers batch))) [
    | inl goes ↦ rw (stranger, goes) (leaves holders batch m fits goes ∙ sym (and_false (is_member holders m)))
    | inr stays ↦ rw (stranger, stays) (remains holders batch m stranger stays ∙ sym (and_true (is_member holders m)))
  ]
]

-- who is a member after the last batch of a valid list
pub is_member-last : (depth : ℕ) (batches : List (List Change)) (batch : List Change) (m : Name) → IsValid depth (batches ++ batch ∷ []) → is_member (holders_of depth (batches ++ batch ∷ [])) m ≡ (list_any (same_name m) (joiners batch) || (is_member (holders_of depth batches) m && not (list_any (same_name m) (leavers batch))))
is_member-last depth batches batch m valid =
    ap (λ holders. is_member holders m) (holders_of-last depth batches batch)
    ∙ is_member-after (holders_of depth batches) batch m (FitInTurn-last (no_holders depth) batches batch valid)
