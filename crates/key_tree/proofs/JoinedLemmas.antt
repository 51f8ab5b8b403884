-- Who comes in with a batch has the leaf that was the lowest free one when its turn came.
use Rattle.std.proofs.Common.{◌≡◌, ℕ, suc, ◌+◌, ◌^◌, ◌≤◌, true, false, cond, not, ltb, ◌&&◌, List, [], ◌∷◌, ◌++◌, Option, None, Some, length, map, refl, sym, ap, ◌∙◌, subst, arith}
use Rattle.std.specs.Prelude.{is_none, is_some}
use Rattle.std.specs.List.{cons_option, fold, list_any, position, position_or_len}
use Rattle.std.specs.Option.{option_map}
use Rattle.std.proofs.lemmas.Bool.{and_parts, not-true, or_left, or_right, false≢true, false_from_ne_true}
use Rattle.std.proofs.lemmas.List.{length-map, length-set}
use Rattle.std.proofs.lemmas.List.Elements.{filter_map-append}
use Rattle.group_terms.specs.Changes.{leavers, joiners}
use Rattle.group_terms.specs.Names.{Name, same_name}
use Rattle.group_terms.specs.declared.changes.Change.{Change}
use Rattle.key_tree.specs.declared.marks.Seat.{Seat}
use Rattle.group_model.specs.Places.{Holders, is_held_by, is_member, place_in, vacated, placed, names_once, holders_after, Fits}
use Rattle.key_tree.specs.Private.Seats.{vacancies, placement, placements, seats_of, leaf_taken, leaves_taken}
use Rattle.group_model.specs.Indexes.{AreOnce}
use Rattle.key_tree.specs.Marks.{seated}
use Rattle.group_model.proofs.EpochLemmas.{length-fold}
use Rattle.group_model.proofs.FitLemmas.{has_place}
use Rattle.group_model.proofs.JoinLemmas.{members-vacated_all, placed-taken, members-placed, placed_member}
use Rattle.group_model.proofs.OnceLemmas.{HasNone, HasNone-from_stranger}
use Rattle.group_model.proofs.PlaceLemmas.{place_in-agree}
use Rattle.group_model.proofs.QueueLemmas.{members, members-count, joiners_once, leavers_once}
use Rattle.key_tree.proofs.SeatLemmas.{vacated_all}
use Rattle.group_model.proofs.StayedLemmas.{same_name-is, same_name-self, none_of, placed_at, placed_all_at, vacated_all_at}

-- the leaves that one gets, and then those that the others get
pub placements_more : (holders : Holders) (m : Name) (names : List Name)
    → placements holders (m ∷ names) ≡ placements holders (m ∷ []) ++ placements (placed holders m) names
placements_more holders m names = first (placement holders m)
  where
    first : (seat : Option Seat) → cons_option seat (placements (placed holders m) names) ≡ cons_option seat [] ++ placements (placed holders m) names
    first None = refl
    first (Some seat) = refl

-- nobody has a leaf that was left
none_more : (first : ℕ) (place : Option ℕ) (rest : List Seat) → leaves_taken first rest ≡ []
    → leaves_taken first (cons_option (option_map (λ i. record { place = i; holder = None }) place) rest) ≡ []
none_more first None rest none = none
none_more first (Some i) rest none = none

pub none_taken : (first : ℕ) (holders : Holders) (names : List Name) → leaves_taken first (vacancies holders names) ≡ []
none_taken first holders [] = refl
none_taken first holders (m ∷ names) = none_more first (position (is_held_by m) holders) (vacancies holders names) (none_taken first holders names)

-- who had no leaf is found at the lowest free one
first_free : (holders : Holders) (m : Name) → HasNone holders m → position_or_len (is_held_by m) (placed holders m) ≡ position_or_len is_none holders
first_free [] m none = refl
first_free (None ∷ holders) m none = ap (λ b. cond (not b) (1 + position_or_len (is_held_by m) holders) 0) (same_name-self m)
first_free (Some name ∷ holders) m none =
    ap (position_or_len (is_held_by m)) (placed-taken m name holders)
    ∙ ap (λ b. cond (not b) (1 + position_or_len (is_held_by m) (placed holders m)) 0) (none 0)
    ∙ ap (λ n. 1 + n) (first_free holders m (λ i. none (suc i)))

place_in-placed : (depth : ℕ) (holders : Holders) (m : Name) → HasNone holders m
    → place_in depth (placed holders m) m ≡ option_map (λ i. 2 ^ depth + i) (position is_none holders)
place_in-placed depth holders m none =
    let long : length (placed holders m) ≡ length holders = length-set holders (position_or_len is_none holders) (Some m) in
    let same = first_free holders m none in
    λ i. option_map (λ k. 2 ^ depth + k) (cond (ltb (same i) (long i)) (Some (same i)) None)

-- the others, of other names, leave it where it is
place_in-kept : (depth : ℕ) (holders : Holders) (m : Name) (names : List Name) → list_any (same_name m) names ≡ false
    → place_in depth (fold placed holders names) m ≡ place_in depth holders m
place_in-kept depth holders m names other =
    place_in-agree depth holders (fold placed holders names) m
    (length-fold placed (λ now n. length-set now (position_or_len is_none now) (Some n)) holders names)
    (λ i. placed_all_at m i holders names other)

module _ (depth : ℕ) where
  -- the first of some names gets a leaf
  taken_first : (holders : Holders) (m : Name) (names : List Name) → (place : Option ℕ) → is_some (option_map (λ i. 2 ^ depth + i) place) ≡ true
      → map Some (leaves_taken (2 ^ depth) (cons_option (option_map (λ i. record { place = i; holder = Some m }) place) (placements (placed holders m) names)))
      ≡ option_map (λ i. 2 ^ depth + i) place ∷ map Some (leaves_taken (2 ^ depth) (placements (placed holders m) names))
  taken_first holders m names None found = absurd (false≢true found)
  taken_first holders m names (Some i) found = refl

  -- so many names have their leaves in the end, where there is a free leaf for each
  taken_all : (holders : Holders) (names : List Name) → names_once names ≡ true → ((m : Name) → list_any (same_name m) names ≡ true → HasNone holders m)
      → members holders + length names ≤ length holders
      → map Some (leaves_taken (2 ^ depth) (placements holders names)) ≡ map (place_in depth (fold placed holders names)) names
  taken_all holders [] once none room = refl
  taken_all holders (m ∷ names) once none room =
      let now : Holders = placed holders m in
      let parts = and_parts (not (list_any (same_name m) names)) (names_once names) once in
      let other : list_any (same_name m) names ≡ false = not-true (list_any (same_name m) names) parts.0 in
      let long : length now ≡ length holders = length-set holders (position_or_len is_none holders) (Some m) in
      let none_m : HasNone holders m = none m (or_left (same_name m m) (list_any (same_name m) names) (same_name-self m)) in
      let here : place_in depth now m ≡ option_map (λ i. 2 ^ depth + i) (position is_none holders) = place_in-placed depth holders m none_m in
      let found : is_some (option_map (λ i. 2 ^ depth + i) (position is_none holders)) ≡ true =
      ap is_some (sym here) ∙ has_place depth now m ∙ placed_member m holders (omega (arith, room)) in
      let last : place_in depth (fold placed now names) m ≡ option_map (λ i. 2 ^ depth + i) (position is_none holders) = place_in-kept depth now m names other ∙ here in
      let rest : map Some (leaves_taken (2 ^ depth) (placements now names)) ≡ map (place_in depth (fold placed now names)) names =
      taken_all now names parts.1
      (λ n later i.
      let apart : same_name n m ≡ false = false_from_ne_true (same_name n m) (λ same. false≢true (sym other ∙ subst (λ name. list_any (same_name name) names ≡ true) (same_name-is n m same) later)) in
      placed_at holders n m i apart ∙ none n (or_right (same_name n m) (list_any (same_name n) names) later) i)
      (omega (arith, room, members-placed m holders, long)) in
      taken_first holders m names (position is_none holders) found ∙ (λ i. sym last i ∷ rest i)

  -- the leaves that a batch gives are those that its joiners have after it
  pub joined_places : (holders : Holders) (batch : List Change) (seats : List Seat) → AreOnce holders → Fits holders batch → seats ≡ seats_of holders batch
      → map Some (leaves_taken (2 ^ depth) seats) ≡ map (place_in depth (holders_after holders batch)) (joiners batch)
  unfolding holders_after
  joined_places holders batch seats once fits is =
      let left : Holders = fold vacated holders (leavers batch) in
      let long : length left ≡ length holders = length-fold vacated (λ xs n. length-map xs _) holders (leavers batch) in
      let none : (m : Name) → list_any (same_name m) (joiners batch) ≡ true → HasNone left m = λ m comes i.
      vacated_all_at m i holders (leavers batch)
      ∙ ap (λ b. b && not (list_any (same_name m) (leavers batch))) (HasNone-from_stranger holders m (none_of (is_member holders) m (joiners batch) fits.from_strangers comes) i) in
      ap (λ list. map Some (leaves_taken (2 ^ depth) list)) is
      ∙ ap (map Some) (filter_map-append (leaf_taken (2 ^ depth)) (vacancies holders (leavers batch)) (placements (seated holders (vacancies holders (leavers batch))) (joiners batch)))
      ∙ ap (λ list. map Some (list ++ leaves_taken (2 ^ depth) (placements (seated holders (vacancies holders (leavers batch))) (joiners batch)))) (none_taken (2 ^ depth) holders (leavers batch))
      ∙ ap (λ now. map Some (leaves_taken (2 ^ depth) (placements now (joiners batch)))) (vacated_all holders once (leavers batch))
      ∙ taken_all left (joiners batch) (joiners_once batch fits.once) none
      (omega (arith, long, fits.room, members-count holders, members-vacated_all holders (leavers batch) (leavers_once batch fits.once) fits.from_members))
