-- Leaves that change hands one after the other, and the index of names.
-- Leaves change hands one by one (`slice_set`), and the marks follow by `map-set` and `zip_set`; what they mean for the batch is a lemma on the finished list,
-- `seated_after`. The index of names may be given up (`NameIndex`): its invariant holds as far as there is one, so an insertion that is
-- out of memory needs no error.
use Rattle.std.proofs.Common.{◌≡◌, ℕ, zero, suc, ◌+◌, ◌<◌, Bool, true, false, not, List, [], ◌∷◌, ◌++◌, Option, None, Some, cond, ◌⊎◌, length, map, replicate, get_or, set, refl, sym, ap, ◌∙◌, subst, arith, inl, inr}
use Rattle.std.specs.Prelude.{is_some, is_none}
use Rattle.std.specs.List.{cons_option, count_by, fold, position}
use Rattle.std.specs.Option.{option_map}
use Rattle.std.proofs.lemmas.Bool.{cases_eq, cases_lt, false≢true, false_from_ne_true}
use Rattle.std.proofs.lemmas.List.{ext_get_or, get_or_past, get_or-set_same, get_or-set_other, length-map, length-set}
use Rattle.std.proofs.lemmas.List.Quantifiers.{position-Some}
use Rattle.std.proofs.lemmas.List.Sums.{sum_by-cons}
use Rattle.group_terms.specs.Changes.{leavers, joiners}
use Rattle.group_terms.specs.Names.{Name}
use Rattle.group_terms.specs.declared.changes.Change.{Change}
use Rattle.key_tree.specs.declared.marks.Seat.{Seat}
use Rattle.group_model.specs.Fresh.{is_same_holder}
use Rattle.group_model.specs.Places.{Holders, is_held_by, member_count, vacated, placed, holders_after}
use Rattle.key_tree.specs.Private.Seats.{placements, seats_of, vacancies}
use Rattle.group_model.specs.Indexes.{AreOnce}
use Rattle.key_tree.specs.Marks.{seated}
use Rattle.tree_leaves.proofs.HolderLemmas.{placed_at, placed_nowhere}
use Rattle.group_model.proofs.IndexLemmas.{position_none}
use Rattle.group_model.proofs.StayedLemmas.{same_name-self, get_or-map_at}

pub nobody_held : (n : ℕ) → map is_some (replicate {A = Option Name} n None) ≡ replicate n false
nobody_held zero = refl
nobody_held (suc n) = λ i. false ∷ nobody_held n i

-- one leaf more changed hands
pub seated_more : (before : Holders) (seats : List Seat) (seat : Seat) → seated before (seats ++ seat ∷ []) ≡ set (seated before seats) seat.place seat.holder
seated_more before [] seat = refl
seated_more before (first ∷ seats) seat = seated_more (set before first.place first.holder) seats seat

pub seated_append : (before : Holders) (seats more : List Seat) → seated before (seats ++ more) ≡ seated (seated before seats) more
seated_append before [] more = refl
seated_append before (seat ∷ seats) more = seated_append (set before seat.place seat.holder) seats more

pub length-seated : (before : Holders) (seats : List Seat) → length (seated before seats) ≡ length before
length-seated before [] = refl
length-seated before (seat ∷ seats) = length-seated (set before seat.place seat.holder) seats ∙ length-set before seat.place seat.holder

pub not_some : (holder : Option Name) (none : Bool) → is_some holder ≡ not none → none ≡ is_none holder
not_some None true is = refl
not_some None false is = absurd (false≢true is)
not_some (Some name) true is = absurd (false≢true (sym is))
not_some (Some name) false is = refl

pub same_as_itself : (holder : Option Name) → is_same_holder holder holder ≡ true
same_as_itself None = refl
same_as_itself (Some name) = same_name-self name

-- as many are marked as held as there are members
pub members_by_marks : (holders : Holders) → count_by (λ mark. mark) (map is_some holders) ≡ member_count holders
members_by_marks [] = refl
members_by_marks (holder ∷ holders) =
    sum_by-cons (λ b. cond {A = ℕ} b 1 0) (is_some holder) (map is_some holders) ∙ ap (λ n. cond {A = ℕ} (is_some holder) 1 0 + n) (members_by_marks holders)
    ∙ sym (sum_by-cons (λ h. cond {A = ℕ} (is_some h) 1 0) holder holders)

-- the leaves of a tree after some of them were left
record IsLeftOf (before now : Holders) : Type 0 where
  same : length now ≡ length before
  each : (j : ℕ) → (get_or now j None ≡ get_or before j None) ⊎ (get_or now j None ≡ None)

pub vacated_get : (now : Holders) (m : Name) (j : ℕ) → get_or (vacated now m) j None ≡ cond (is_held_by m (get_or now j None)) None (get_or now j None)
vacated_get now m j = get_or-map_at (λ holder. cond (is_held_by m holder) None holder) now j None refl

vacated_stranger : (now : Holders) (m : Name) → ((j : ℕ) → is_held_by m (get_or now j None) ≡ false) → vacated now m ≡ now
vacated_stranger now m none =
    ext_get_or None (vacated now m) now (length-map now (λ holder. cond (is_held_by m holder) None holder))
    (λ j low. vacated_get now m j ∙ ap (λ b. cond b None (get_or now j None)) (none j))

vacated_one : (now : Holders) (m : Name) (i : ℕ) → i < length now → ((j : ℕ) → (j ≡ i → ⊥) → is_held_by m (get_or now j None) ≡ false)
    → (is_held_by m (get_or now i None) ≡ true) ⊎ (get_or now i None ≡ None) → vacated now m ≡ set now i None
vacated_one now m i low others here =
    ext_get_or None (vacated now m) (set now i None) (length-map now (λ holder. cond (is_held_by m holder) None holder) ∙ sym (length-set now i None))
    (λ j _. elim (cases_eq j i) [
      | inl same ↦ rw same (vacated_get now m i ∙ left here ∙ sym (get_or-set_same now i None None low))
      | inr other ↦ vacated_get now m j ∙ ap (λ b. cond b None (get_or now j None)) (others j other) ∙ sym (get_or-set_other now i j None None other)
    ])
  where
    left : (is_held_by m (get_or now i None) ≡ true) ⊎ (get_or now i None ≡ None) → cond (is_held_by m (get_or now i None)) None (get_or now i None) ≡ None
    left (inl held) = ap (λ b. cond b None (get_or now i None)) held
    left (inr none) = ap (λ holder. cond (is_held_by m holder) None holder) none

module _ (before : Holders) (once : AreOnce before) where
  -- who is at one leaf before is at no other one now
  elsewhere : (now : Holders) (m : Name) (i j : ℕ) → IsLeftOf before now → is_held_by m (get_or before i None) ≡ true → (j ≡ i → ⊥) → is_held_by m (get_or now j None) ≡ false
  elsewhere now m i j left held other = elim (left.each j) [
    | inl same ↦ ap (is_held_by m) same ∙ false_from_ne_true (is_held_by m (get_or before j None)) (λ there. other (once m j i there held))
    | inr none ↦ ap (is_held_by m) none
  ]

  nowhere_now : (now : Holders) (m : Name) → IsLeftOf before now → position (is_held_by m) before ≡ None → (j : ℕ) → is_held_by m (get_or now j None) ≡ false
  nowhere_now now m left none j = elim (left.each j) [
    | inr left_now ↦ ap (is_held_by m) left_now
    | inl same ↦ ap (is_held_by m) same ∙ elim (cases_lt j (length before)) [
      | inl low ↦ position_none (is_held_by m) before j None none low
      | inr past ↦ ap (is_held_by m) (get_or_past before j None past)
    ]
  ]

  leaving : (now : Holders) (i : ℕ) → IsLeftOf before now → IsLeftOf before (set now i None)
  leaving now i left = record {
    same = length-set now i None ∙ left.same;
    each = λ j. elim (cases_eq j i) [
      | inr other ↦ subst (λ (holder : Option Name). (holder ≡ get_or before j None) ⊎ (holder ≡ None)) (sym (get_or-set_other now i j None None other)) (left.each j)
      | inl here ↦ elim (cases_lt i (length now)) [
        | inl low ↦ inr (rw here (get_or-set_same now i None None low))
        | inr past ↦ inr (get_or_past (set now i None) j None (omega (arith, past, here, length-set now i None)))
      ]
    ];
  }

  -- m leaves, and then the others
  vacated_step : (names : List Name) (m : Name) (now : Holders) → IsLeftOf before now
      → ((now : Holders) → IsLeftOf before now → seated now (vacancies before names) ≡ fold vacated now names)
      → (place : Option ℕ) → position (is_held_by m) before ≡ place → seated now (vacancies before (m ∷ names)) ≡ fold vacated (vacated now m) names
  vacated_step names m now left others None none =
      ap (λ place. seated now (cons_option (option_map (λ i. record { place = i; holder = None }) place) (vacancies before names))) none
      ∙ others now left
      ∙ ap (λ holders. fold vacated holders names) (sym (vacated_stranger now m (nowhere_now now m left none)))
  vacated_step names m now left others (Some i) is =
      let found = position-Some (is_held_by m) before i None is in
      let here : (is_held_by m (get_or now i None) ≡ true) ⊎ (get_or now i None ≡ None) = elim (left.each i) [
        | inl same ↦ inl (ap (is_held_by m) same ∙ found.1)
        | inr none ↦ inr none
      ] in
      ap (λ place. seated now (cons_option (option_map (λ i. record { place = i; holder = None }) place) (vacancies before names))) is
      ∙ others (set now i None) (leaving now i left)
      ∙ ap (λ holders. fold vacated holders names) (sym (vacated_one now m i (omega (arith, found.0, left.same)) (λ j other. elsewhere now m i j left found.1 other) here))

  vacated_all_from : (names : List Name) (now : Holders) → IsLeftOf before now → seated now (vacancies before names) ≡ fold vacated now names
  vacated_all_from [] now left = refl
  vacated_all_from (m ∷ names) now left = vacated_step names m now left (vacated_all_from names) (position (is_held_by m) before) refl

  pub vacated_all : (names : List Name) → seated before (vacancies before names) ≡ fold vacated before names
  vacated_all names = vacated_all_from names before (record { same = refl; each = λ j. inl refl })

-- those who come in get their leaves one after the other
seated_first : (now : Holders) (m : Name) (names : List Name) (found : Option ℕ) → position is_none now ≡ found
    → ((next : Holders) → seated next (placements next names) ≡ fold placed next names)
    → seated now (cons_option (option_map (λ i. record { place = i; holder = Some m }) found) (placements (placed now m) names)) ≡ fold placed (placed now m) names
seated_first now m names None none others = ap (λ holders. seated holders (placements (placed now m) names)) (placed_nowhere now m none) ∙ others (placed now m)
seated_first now m names (Some i) at others = ap (λ holders. seated holders (placements (placed now m) names)) (placed_at now m i at) ∙ others (placed now m)

seated_all : (names : List Name) (now : Holders) → seated now (placements now names) ≡ fold placed now names
seated_all [] now = refl
seated_all (m ∷ names) now = seated_first now m names (position is_none now) refl (seated_all names)

-- those who go out leave their leaves, and then the others get theirs
pub seated_after : (before : Holders) (batch : List Change) → AreOnce before → seated before (seats_of before batch) ≡ holders_after before batch
unfolding holders_after
seated_after before batch once =
    let left : List Seat = vacancies before (leavers batch) in
    seated_append before left (placements (seated before left) (joiners batch))
    ∙ seated_all (joiners batch) (seated before left)
    ∙ ap (λ now. fold placed now (joiners batch)) (vacated_all before once (leavers batch))
