-- Who has which leaf once those who go out with a batch left theirs.
use Rattle.std.proofs.Common.{◌≡◌, ℕ, ◌+◌, ◌^◌, ◌<◌, Bool, true, false, cond, eqb, not, ◌||◌, List, [], ◌∷◌, Option, None, Some, length, map, get_or, set, refl, sym, ap, subst, ◌∙◌, arith, inl, inr}
use Rattle.std.specs.Prelude.{is_none, is_some}
use Rattle.std.specs.List.{All, AllByRecursion, IsDistinct, cons_option, count_by, list_any, position}
use Rattle.std.specs.List.Sorted.{IsPermutation}
use Rattle.std.specs.Option.{option_map}
use Rattle.std.proofs.lemmas.Bool.{and_parts, cases_eq, cases_lt, eq-eqb, eqb-true, false≢true, ne_eqb, not-true, or_cases, or_parts}
use Rattle.std.proofs.lemmas.List.{get_or-map, get_or_past, get_or-set_other, get_or-set_same, length-map, length-set, map-set}
use Rattle.std.proofs.lemmas.List.Elements.{All-from_recursion, recursion_from_All}
use Rattle.std.proofs.lemmas.List.Quantifiers.{position-Some}
use Rattle.std.proofs.lemmas.List.Sorted.{list_any-IsPermutation}
use Rattle.std.proofs.lemmas.Map.Keys.{IsDistinct-cons, IsDistinct-head, IsDistinct-tail}
use Rattle.group_terms.specs.Names.{Name, same_name}
use Rattle.group_terms.proofs.LeafMarkLemmas.{count_by-set}
use Rattle.group_model.specs.Places.{Holders, is_held_by, member_count, names_once}
use Rattle.group_model.proofs.PlaceLemmas.{one_leaf}
use Rattle.group_model.proofs.StayedLemmas.{same_name-self}
use Rattle.key_tree.specs.declared.marks.Seat.{Seat}
use Rattle.key_tree.specs.Marks.{seated}
use Rattle.key_tree.specs.Private.Seats.{IsLeft, is_among, places_of, vacancies}
use Rattle.key_tree.proofs.SeatLemmas.{length-seated, members_by_marks}

-- one leaf that has another holder
pub members-set : (holders : Holders) (i : ℕ) (holder : Option Name) → i < length holders
    → member_count (set holders i holder) + cond {A = ℕ} (is_some (get_or holders i None)) 1 0 ≡ member_count holders + cond {A = ℕ} (is_some holder) 1 0
members-set holders i holder low =
    let marks : List Bool = map is_some holders in
    let was : get_or marks i false ≡ is_some (get_or holders i None) = get_or-map is_some holders i None false low in
    let then : member_count (set holders i holder) ≡ count_by (λ mark. mark) (set marks i (is_some holder)) =
    sym (members_by_marks (set holders i holder)) ∙ ap (count_by (λ mark. mark)) (map-set is_some holders i holder) in
    let counted = count_by-set marks i (is_some holder) (omega (arith, low, length-map holders is_some)) in
    (λ j. then j + cond {A = ℕ} (sym was j) 1 0) ∙ counted ∙ ap (λ n. n + cond {A = ℕ} (is_some holder) 1 0) (members_by_marks holders)

some_held : (m : Name) (holder : Option Name) → is_held_by m holder ≡ true → is_some holder ≡ true
some_held m None held = absurd (false≢true held)
some_held m (Some name) held = refl

-- a leaf that is nobody's from now on
abbrev left_seat : ℕ → Seat
left_seat place = record { place = place; holder = None }

module _ (before : Holders) where
  abbrev pub left_by : List Name → List ℕ
  left_by names = places_of (vacancies before names)

  seats_more : (names : List Name) (place : Option ℕ) → vacancies before names ≡ map left_seat (left_by names)
      → cons_option (option_map left_seat place) (vacancies before names) ≡ map left_seat (places_of (cons_option (option_map left_seat place) (vacancies before names)))
  seats_more names None same = same
  seats_more names (Some i) same = ap (λ seats. left_seat i ∷ seats) same

  pub vacancies_are : (names : List Name) → vacancies before names ≡ map left_seat (left_by names)
  vacancies_are [] = refl
  vacancies_are (m ∷ names) = seats_more names (position (is_held_by m) before) (vacancies_are names)

  abbrev IsHeld : ℕ → Type 0
  IsHeld i = (i < length before) × (is_some (get_or before i None) ≡ true)

  held_more : (names : List Name) (m : Name) (place : Option ℕ) → position (is_held_by m) before ≡ place → AllByRecursion IsHeld (left_by names)
      → AllByRecursion IsHeld (places_of (cons_option (option_map left_seat place) (vacancies before names)))
  held_more names m None is all = all
  held_more names m (Some i) is all =
      let found = position-Some (is_held_by m) before i None is in
      ((found.0, some_held m (get_or before i None) found.1), all)

  all_held : (names : List Name) → AllByRecursion IsHeld (left_by names)
  all_held [] = tt
  all_held (m ∷ names) = held_more names m (position (is_held_by m) before) refl (all_held names)

  -- each leaf that is left is one that somebody had
  pub held_by_left : (names : List Name) → All IsHeld (left_by names)
  held_by_left names = All-from_recursion IsHeld (left_by names) (all_held names)

  -- no other name has it
  apart_more : (i : ℕ) (m n : Name) (names : List Name) (place : Option ℕ) → position (is_held_by m) before ≡ Some i → position (is_held_by n) before ≡ place → same_name m n ≡ false
      → AllByRecursion (λ j. eqb i j ≡ false) (left_by names)
      → AllByRecursion (λ j. eqb i j ≡ false) (places_of (cons_option (option_map left_seat place) (vacancies before names)))
  apart_more i m n names None here there other all = all
  apart_more i m n names (Some j) here there other all = (
    ne_eqb i j (λ same.
        let one : m ≡ n = one_leaf 0 before m n (2 ^ 0 + j) (ap (option_map (λ k. 2 ^ 0 + k)) (here ∙ ap Some same)) (ap (option_map (λ k. 2 ^ 0 + k)) there) in
        false≢true (sym other ∙ ap (same_name m) (sym one) ∙ same_name-self m)),
    all,
  )

  apart_all : (i : ℕ) (m : Name) (names : List Name) → position (is_held_by m) before ≡ Some i → list_any (same_name m) names ≡ false
      → AllByRecursion (λ j. eqb i j ≡ false) (left_by names)
  apart_all i m [] here others = tt
  apart_all i m (n ∷ names) here others =
      let parts = or_parts (same_name m n) (list_any (same_name m) names) others in
      apart_more i m n names (position (is_held_by n) before) here refl parts.0 (apart_all i m names here parts.1)

  distinct_more : (m : Name) (names : List Name) (place : Option ℕ) → position (is_held_by m) before ≡ place → list_any (same_name m) names ≡ false → IsDistinct eqb (left_by names)
      → IsDistinct eqb (places_of (cons_option (option_map left_seat place) (vacancies before names)))
  distinct_more m names None here others h = h
  distinct_more m names (Some i) here others h = IsDistinct-cons eqb i (left_by names) (apart_all i m names here others) h

  -- no leaf is left twice
  pub left_once : (names : List Name) → names_once names ≡ true → IsDistinct eqb (left_by names)
  unfolding IsDistinct
  left_once [] once = tt
  left_once (m ∷ names) once =
      let parts = and_parts (not (list_any (same_name m) names)) (names_once names) once in
      distinct_more m names (position (is_held_by m) before) refl (not-true (list_any (same_name m) names) parts.0) (left_once names parts.1)

nobody : (b : Bool) → cond {A = Option Name} b None None ≡ None
nobody true = refl
nobody false = refl

-- those leaves have nobody
seated_left : (places : List ℕ) (now : Holders) (i : ℕ) → get_or (seated now (map left_seat places)) i None ≡ cond (is_among places i) None (get_or now i None)
seated_left [] now i = refl
seated_left (p ∷ places) now i = elim (cases_eq i p) [
  | inr other ↦ seated_left places (set now p None) i
      ∙ ap (cond (is_among places i) None) (get_or-set_other now p i None None other)
      ∙ sym (ap (λ b. cond (b || is_among places i) None (get_or now i None)) (ne_eqb i p other))
  | inl here ↦ seated_left places (set now p None) i
      ∙ ap (cond (is_among places i) None) (gone here) ∙ nobody (is_among places i)
      ∙ sym (ap (λ b. cond (b || is_among places i) None (get_or now i None)) (eq-eqb i p here))
]
  where
    gone : i ≡ p → get_or (set now p None) i None ≡ None
    gone here = elim (cases_lt p (length now)) [
      | inl low ↦ ap (λ k. get_or (set now p None) k None) here ∙ get_or-set_same now p None None low
      | inr past ↦ get_or_past (set now p None) i None (omega (arith, past, here, length-set now p None))
    ]

pub left_at : (before : Holders) (names : List Name) (i : ℕ) → get_or (seated before (vacancies before names)) i None ≡ cond (is_among (left_by before names) i) None (get_or before i None)
left_at before names i = ap (λ seats. get_or (seated before seats) i None) (vacancies_are before names) ∙ seated_left (left_by before names) before i

-- each of them had a member
others_held : (now : Holders) (p : ℕ) (places : List ℕ) → AllByRecursion (λ j. eqb p j ≡ false) places
    → AllByRecursion (λ j. (j < length now) × (is_some (get_or now j None) ≡ true)) places
    → AllByRecursion (λ j. (j < length (set now p None)) × (is_some (get_or (set now p None) j None) ≡ true)) places
others_held now p [] others all = tt
others_held now p (j ∷ places) others all = (
  (
    omega (arith, all.0.0, length-set now p None),
    ap is_some (get_or-set_other now p j None None (λ e. false≢true (sym others.0 ∙ eq-eqb p j (sym e)))) ∙ all.0.1,
  ),
  others_held now p places others.1 all.1,
)

fewer : (places : List ℕ) (now : Holders) → IsDistinct eqb places → AllByRecursion (λ j. (j < length now) × (is_some (get_or now j None) ≡ true)) places
    → member_count (seated now (map left_seat places)) + length places ≡ member_count now
fewer [] now distinct all = omega arith
fewer (p ∷ places) now distinct all =
    let one : cond {A = ℕ} (is_some (get_or now p None)) 1 0 ≡ 1 = ap (λ b. cond {A = ℕ} b 1 0) all.0.1 in
    let rest = fewer places (set now p None) (IsDistinct-tail eqb p places distinct) (others_held now p places (IsDistinct-head eqb p places distinct) all.1) in
    omega (arith, one, rest, members-set now p None all.0.0)

pub members_left : (before : Holders) (names : List Name) → names_once names ≡ true
    → member_count (seated before (vacancies before names)) + length (vacancies before names) ≡ member_count before
members_left before names once =
    let all = fewer (left_by before names) before (left_once before names once) (recursion_from_All (IsHeld before) (left_by before names) (held_by_left before names)) in
    let same : member_count (seated before (vacancies before names)) ≡ member_count (seated before (map left_seat (left_by before names))) =
    ap (λ seats. member_count (seated before seats)) (vacancies_are before names) in
    omega (arith, all, same, length-map (vacancies before names) (λ (seat : Seat). seat.place))

-- what is so for all of them is so for one
pub among_all : (P : ℕ → Type 0) (places : List ℕ) (i : ℕ) → AllByRecursion P places → is_among places i ≡ true → P i
among_all P [] i all there = absurd (false≢true there)
among_all P (p ∷ places) i all there = elim (or_cases (eqb i p) (is_among places i) there) [
  | inl here ↦ subst P (sym (eqb-true i p here)) all.0
  | inr later ↦ among_all P places i all.1 later
]

or_none : (b : Bool) → (b || false) ≡ b
or_none true = refl
or_none false = refl

or_some : (b : Bool) → (b || true) ≡ true
or_some true = refl
or_some false = refl

-- the leaves that were left, in another order
module _ (before : Holders) (names : List Name) (places : List ℕ) (same : IsPermutation (left_by before names) places) where
  pub among_left : (i : ℕ) → is_among places i ≡ is_among (left_by before names) i
  among_left i = sym (list_any-IsPermutation (λ place. eqb i place) (left_by before names) places same)

  pub is_left : IsLeft before (seated before (vacancies before names)) (map is_none before) places
  is_left = record {
    len = length-seated before (vacancies before names);
    within = λ i vacant. elim (or_cases (get_or (map is_none before) i false) (is_among places i) vacant) [
      | inl free ↦ elim (cases_lt i (length before)) [
        | inl low ↦ low
        | inr past ↦ absurd (false≢true (sym (get_or_past (map is_none before) i false (omega (arith, past, length-map before is_none))) ∙ free))
      ]
      | inr left ↦ (among_all (IsHeld before) (left_by before names) i (all_held before names) (sym (among_left i) ∙ left)).0
    ];
    vacant = λ i low.
        let free : get_or (map is_none before) i false ≡ is_none (get_or before i None) = get_or-map is_none before i None false low in
        ap is_none (left_at before names i)
        ∙ (elim (is_among (left_by before names) i) as (λ b. is_none (cond b None (get_or before i None)) ≡ (is_none (get_or before i None) || b)) [
          | true ↦ sym (or_some (is_none (get_or before i None)))
          | false ↦ sym (or_none (is_none (get_or before i None)))
        ])
        ∙ (λ j. sym free j || sym (among_left i) j);
  }
