-- Who has which leaf once some came in with a batch, each at the lowest free leaf.
use Rattle.std.proofs.Common.{◌≡◌, ℕ, suc, ◌+◌, ◌<◌, ◌≤◌, Bool, true, false, cond, eqb, ltb, ◌||◌, ◌&&◌, List, [], ◌∷◌, ◌++◌, Option, None, Some, length, get_or, set, refl, sym, ap, subst, ◌∙◌, arith, inl, inr}
use Rattle.std.specs.Prelude.{is_none, is_some}
use Rattle.std.specs.List.{All, cons_option, position, position_or_len}
use Rattle.std.specs.Option.{option_map}
use Rattle.std.proofs.Math.Dec.{leb}
use Rattle.std.proofs.lemmas.Bool.{cases_Bool, cases_eq, cases_lt, cond-true, eq-eqb, eqb-true, false≢true, le-leb, leb-true, lt-ltb, or_cases, or_parts}
use Rattle.std.proofs.lemmas.List.{append-nil, get_or-set_other, get_or-set_same, length-append, length-set, map-append}
use Rattle.std.proofs.lemmas.List.Elements.{All-from_get_or, All-push, All-weaker, recursion_from_All}
use Rattle.std.proofs.lemmas.List.Folds.{list_any-append, list_any_none}
use Rattle.std.proofs.lemmas.List.Sums.{position_or_len_is}
use Rattle.group_terms.specs.Names.{Name}
use Rattle.group_values.specs.Values.{Rises}
use Rattle.group_model.specs.Fresh.{is_same_holder}
use Rattle.group_model.specs.Places.{Holders, is_member}
use Rattle.group_model.proofs.IndexLemmas.{is_some-position}
use Rattle.group_model.proofs.OnceLemmas.{HasNone-from_stranger}
use Rattle.key_tree.specs.declared.marks.Seat.{Seat}
use Rattle.key_tree.specs.Marks.{seated}
use Rattle.key_tree.specs.Private.Lowest.{IsLowestFrom}
use Rattle.key_tree.specs.Private.Seats.{IsLeft, IsTaken, is_among, is_vacant, placements, places_of}
use Rattle.key_tree.proofs.LeftLemmas.{among_all, members-set}
use Rattle.key_tree.proofs.SeatLemmas.{seated_more}

pub rises_push : (xs : List ℕ) (y : ℕ) → Rises xs → All (λ x. x < y) xs → Rises (xs ++ y ∷ [])
rises_push [] y rises below = (λ k d low. absurd (omega (arith, low)), tt)
rises_push (x ∷ xs) y rises below = (
  All-push (λ w. x < w) xs y rises.0 (below 0 0 (omega arith)),
  rises_push xs y rises.1 (λ k d low. below (suc k) d (omega (arith, low))),
)

pub leb_no : (a b : ℕ) → b < a → leb a b ≡ false
leb_no a b less = elim (cases_Bool (leb a b)) [
  | inl yes_it ↦ absurd (omega (arith, less, leb-true a b yes_it))
  | inr not_it ↦ not_it
]

no_position : (found : Option ℕ) → is_some found ≡ false → found ≡ None
no_position None none = refl
no_position (Some i) none = absurd (false≢true (sym none))

module _ (before left : Holders) (free : List Bool) (places : List ℕ) (h : IsLeft before left free places) where
  -- before anybody came
  pub none_taken_yet : (from : ℕ) → from ≡ 0 → IsTaken before left left from []
  none_taken_yet from first = record {
    len = h.len;
    free = λ i low. sym (ap (λ b. b && is_none (get_or left i None)) (le-leb from i (omega (arith, first))));
    others = λ i among. refl;
    changed = λ i among. absurd (false≢true among);
    rises = tt;
    below = λ k d low. absurd (omega (arith, low));
    within = λ k d low. absurd (omega (arith, low));
    members = omega arith;
  }

  module _ (now : Holders) (from : ℕ) (came : List ℕ) (t : IsTaken before left now from came) where
    -- below the lowest vacant leaf each leaf has somebody
    none_free : (bound : ℕ) → ((i : ℕ) → from ≤ i → i < bound → is_vacant free places i ≡ false) → (i : ℕ) → i < length before → i < bound → is_none (get_or now i None) ≡ false
    none_free bound none i low less = elim (cases_lt i from) [
      | inl passed ↦ t.free i low ∙ ap (λ b. b && is_none (get_or left i None)) (leb_no from i passed)
      | inr later ↦ t.free i low ∙ (λ j. leb from i && (h.vacant i low ∙ none i later less) j) ∙ no_more (leb from i)
    ]
      where
        no_more : (b : Bool) → (b && false) ≡ false
        no_more true = refl
        no_more false = refl

    -- no leaf is free
    pub full : IsLowestFrom (is_vacant free places) from None → position is_none now ≡ None
    full none =
        no_position (position is_none now) (is_some-position is_none now
        ∙ list_any_none is_none now (All-from_get_or (λ (holder : Option Name). is_none holder ≡ false) now None
        (λ i low. none_free (length before) (λ k later less. none k later) i (omega (arith, low, t.len)) (omega (arith, low, t.len)))))

    module _ (place : ℕ) (lowest : IsLowestFrom (is_vacant free places) from (Some place)) where
      low_place : place < length before
      low_place = h.within place lowest.1

      free_there : is_none (get_or now place None) ≡ true
      free_there =
          t.free place low_place ∙ (λ j. le-leb from place lowest.0 j && is_none (get_or left place None)) ∙ h.vacant place low_place ∙ lowest.1

      -- the lowest free leaf is that one
      pub at_place : position is_none now ≡ Some place
      at_place =
          let low : place < length now = omega (arith, low_place, t.len) in
          let is : position_or_len is_none now ≡ place =
          position_or_len_is is_none now place None (omega (arith, low)) (λ k less. none_free place lowest.2 k (omega (arith, less, low_place)) less) (λ _. free_there) in
          cond-true (ltb (position_or_len is_none now) (length now)) (Some (position_or_len is_none now)) None (lt-ltb (position_or_len is_none now) (length now) (omega (arith, is, low)))
          ∙ ap Some is

      one_more_among : (i : ℕ) → is_among (came ++ place ∷ []) i ≡ (is_among came i || (eqb i place || false))
      one_more_among i = list_any-append (λ x. eqb i x) came (place ∷ [])

      not_come : (i : ℕ) → is_among came i ≡ true → (i ≡ place → ⊥)
      not_come i among same =
          absurd (omega (arith, same, lowest.0, among_all (λ x. x < from) came i (recursion_from_All (λ x. x < from) came t.below) among))

      -- one who had no leaf gets it
      pub taken_more : (m : Name) → is_member before m ≡ false → IsTaken before left (set now place (Some m)) (place + 1) (came ++ place ∷ [])
      taken_more m stranger = record {
        len = length-set now place (Some m) ∙ t.len;
        free = λ i low. elim (cases_eq i place) [
          | inl here ↦ ap (λ k. is_none (get_or (set now place (Some m)) k None)) here
              ∙ ap is_none (get_or-set_same now place (Some m) None (omega (arith, low_place, t.len)))
              ∙ sym (ap (λ b. b && is_none (get_or left i None)) (leb_no (place + 1) i (omega (arith, here))))
          | inr other ↦ ap is_none (get_or-set_other now place i (Some m) None other)
              ∙ (elim (cases_lt i place) [
                | inl less ↦ none_free place lowest.2 i low less ∙ sym (ap (λ b. b && is_none (get_or left i None)) (leb_no (place + 1) i (omega (arith, less))))
                | inr later ↦ t.free i low
                    ∙ (λ j. (le-leb from i (omega (arith, later, lowest.0)) ∙ sym (le-leb (place + 1) i (omega (arith, later, other)))) j && is_none (get_or left i None))
              ])
        ];
        others = λ i among.
            let parts = or_parts (is_among came i) (eqb i place || false) (sym (one_more_among i) ∙ among) in
            get_or-set_other now place i (Some m) None (λ here. false≢true (sym (or_parts (eqb i place) false parts.1).0 ∙ eq-eqb i place here)) ∙ t.others i parts.0;
        changed = λ i among. elim (or_cases (is_among came i) (eqb i place || false) (sym (one_more_among i) ∙ among)) [
          | inl earlier ↦ ap (is_same_holder (get_or before i None)) (get_or-set_other now place i (Some m) None (not_come i earlier)) ∙ t.changed i earlier
          | inr last ↦ elim (or_cases (eqb i place) false last) [
            | inr never ↦ absurd (false≢true never)
            | inl here ↦ (
                let same : i ≡ place = eqb-true i place here in
                ap (is_same_holder (get_or before i None)) (ap (λ k. get_or (set now place (Some m)) k None) same ∙ get_or-set_same now place (Some m) None (omega (arith, low_place, t.len)))
                ∙ HasNone-from_stranger before m stranger i
                )
          ]
        ];
        rises = rises_push came place t.rises (All-weaker (λ x. x < from) (λ x. x < place) (λ x less. omega (arith, less, lowest.0)) came t.below);
        below = All-push (λ x. x < place + 1) came place (All-weaker (λ x. x < from) (λ x. x < place + 1) (λ x less. omega (arith, less, lowest.0)) came t.below) (omega arith);
        within = All-push (λ x. x < length before) came place t.within low_place;
        members =
            let none : cond {A = ℕ} (is_some (get_or now place None)) 1 0 ≡ 0 = ap (λ b. cond {A = ℕ} b 1 0) (some_not (get_or now place None) free_there) in
            omega (arith, none, members-set now place (Some m) (omega (arith, low_place, t.len)), t.members, length-append came (place ∷ []));
      }
        where
          some_not : (holder : Option Name) → is_none holder ≡ true → is_some holder ≡ false
          some_not None none = refl
          some_not (Some name) none = absurd (false≢true none)

  -- the same of the seats
  module _ (came : List Seat) (from : ℕ) (t : IsTaken before left (seated left came) from (places_of came)) (m : Name) where
    abbrev found : List Seat
    found = placements (seated left came) (m ∷ [])

    abbrev taken_with : List Seat → ℕ → Type 0
    taken_with now next = IsTaken before left (seated left now) next (places_of now)

    pub one_comes : (place : ℕ) → is_member before m ≡ false → IsLowestFrom (is_vacant free places) from (Some place)
        → (found ≡ record { place = place; holder = Some m } ∷ []) × taken_with (came ++ found) (place + 1)
    one_comes place stranger lowest =
        let seat : Seat = record { place = place; holder = Some m } in
        let at = at_place (seated left came) from (places_of came) t place lowest in
        let is : found ≡ seat ∷ [] = ap (λ found. cons_option (option_map (λ i. record { place = i; holder = Some m }) found) []) at in
        let then : set (seated left came) place (Some m) ≡ seated left (came ++ seat ∷ []) = sym (seated_more left came seat) in
        let all : places_of came ++ place ∷ [] ≡ places_of (came ++ seat ∷ []) = sym (map-append (λ (seat : Seat). seat.place) came (seat ∷ [])) in (
          is,
          subst (λ l. taken_with (came ++ l) (place + 1)) (sym is)
              (subst (λ now. IsTaken before left now (place + 1) (places_of (came ++ seat ∷ []))) then
              (subst (IsTaken before left (set (seated left came) place (Some m)) (place + 1)) all (taken_more (seated left came) from (places_of came) t place lowest m stranger))),
        )

    pub none_comes : IsLowestFrom (is_vacant free places) from None → (found ≡ []) × taken_with (came ++ found) from
    none_comes none =
        let is : found ≡ [] =
        ap (λ found. cons_option (option_map (λ i. record { place = i; holder = Some m }) found) []) (full (seated left came) from (places_of came) t none) in (
          is,
          subst (λ l. taken_with l from) (sym (ap (λ l. came ++ l) is ∙ append-nil came)) t,
        )
