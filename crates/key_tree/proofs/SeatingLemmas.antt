-- What a batch makes of the leaves.
use Rattle.std.proofs.Common.{◌≡◌, ℕ, ◌+◌, ◌-◌, ◌^◌, ◌<◌, ◌≤◌, true, false, eqb, List, ◌++◌, None, length, map, drop, get_or, sym, ap, subst, ◌∙◌, arith}
use Rattle.std.specs.Prelude.{is_none, is_some, reverse}
use Rattle.std.proofs.Math.Seq.{drop-append_seam}
use Rattle.std.specs.List.{All, IsDistinct, filter, range_with_len}
use Rattle.std.specs.List.Sorted.{IsPermutation}
use Rattle.std.proofs.lemmas.List.{get_or-map, length-append, length-map}
use Rattle.std.proofs.lemmas.List.Elements.{All-append, All-weaker, filter_map-append}
use Rattle.std.proofs.lemmas.List.Sorted.{All-permutation}
use Rattle.group_terms.specs.Changes.{leavers, joiners}
use Rattle.group_terms.specs.Positions.{some_leaf_below}
use Rattle.group_terms.specs.declared.changes.Change.{Change}
use Rattle.group_model.specs.Fresh.{changed_leaves}
use Rattle.group_model.specs.Places.{Holders, Fits, member_count}
use Rattle.group_model.proofs.QueueLemmas.{leavers_once}
use Rattle.key_tree.specs.declared.marks.Seat.{Seat}
use Rattle.key_tree.specs.declared.seating.Seating.{Seating}
use Rattle.key_tree.specs.declared.vacant.Vacant.{Vacant}
use Rattle.key_tree.specs.Marks.{renewal, seated}
use Rattle.key_tree.specs.Private.Seats.{IsLeft, IsSeating, IsTaken, IsVacant, changed_leaf, leaf_taken, leaves_taken, placements, places_of, vacancies}
use Rattle.key_tree.proofs.ChangedLemmas.{changed_are, rest_within}
use Rattle.key_tree.proofs.JoinedLemmas.{none_taken}
use Rattle.key_tree.proofs.LeftLemmas.{held_by_left, is_left, left_by, left_once, members_left}
use Rattle.key_tree.proofs.SeatLemmas.{seated_append}

-- what is so for each place is so for each seat
of_places : (P : ℕ → Type 0) (seats : List Seat) → All P (places_of seats) → All (λ (seat : Seat). P seat.place) seats
of_places P seats all k d low =
    let long : k < length (places_of seats) = omega (arith, low, length-map seats (λ (seat : Seat). seat.place)) in
    subst P (get_or-map (λ (seat : Seat). seat.place) seats k d d.place low) (all k d.place long)

module _ (before : Holders) (batch : List Change) (fits : Fits before batch) (seats : List Seat) (seats_are : seats ≡ vacancies before (leavers batch)) where
  pub once_left : IsDistinct eqb (places_of seats)
  once_left = subst (λ l. IsDistinct eqb (places_of l)) (sym seats_are) (left_once before (leavers batch) (leavers_once batch fits.once))

  within_left : All (λ place. place < length before) (places_of seats)
  within_left =
      subst (λ l. All (λ place. place < length before) (places_of l)) (sym seats_are)
      (All-weaker (λ i. (i < length before) × (is_some (get_or before i None) ≡ true)) (λ i. i < length before) (λ i h. h.0)
      (left_by before (leavers batch)) (held_by_left before (leavers batch)))

  pub low_left : (places : List ℕ) → IsPermutation (places_of seats) places → length before ≤ 512 → All (λ place. place < 65536) places
  low_left places same few =
      All-weaker (λ place. place < length before) (λ place. place < 65536) (λ place less. omega (arith, less, few)) places
      (All-permutation (λ place. place < length before) (places_of seats) places same within_left)

  pub fewer_left : length seats ≤ member_count before
  fewer_left = omega (arith, ap length seats_are, members_left before (leavers batch) (leavers_once batch fits.once))

  module _ (depth : ℕ) (long : length before ≡ 2 ^ depth) (places : List ℕ) (same : IsPermutation (places_of seats) places) (vacant : Vacant) (v : IsVacant vacant) (left_are : vacant.left ≡ places)
      (all came : List Seat) (came_are : came ≡ drop (length seats) all)
      (taken : (left : Holders) → IsLeft before left (map is_none before) places
      → (all ≡ seats ++ placements left (joiners batch)) × IsTaken before left (seated left (placements left (joiners batch))) vacant.from (places_of (placements left (joiners batch)))) where
    abbrev left : Holders
    left = seated before (vacancies before (leavers batch))

    order : IsPermutation (left_by before (leavers batch)) places
    order = subst (λ l. IsPermutation (places_of l) places) seats_are same

    order_vacant : IsPermutation (left_by before (leavers batch)) vacant.left
    order_vacant = subst (IsPermutation (left_by before (leavers batch))) (sym left_are) order

    once_all : (all ≡ seats ++ placements left (joiners batch)) × IsTaken before left (seated left (placements left (joiners batch))) vacant.from (places_of (placements left (joiners batch)))
    once_all = taken left (is_left before (leavers batch) places order)

    those : came ≡ placements left (joiners batch)
    those = came_are ∙ ap (drop (length seats)) once_all.0 ∙ drop-append_seam seats (placements left (joiners batch))

    both : (came ≡ placements left (joiners batch)) × IsTaken before left (seated left came) vacant.from (places_of came)
    both = (those, subst (λ l. IsTaken before left (seated left l) vacant.from (places_of l)) (sym those) once_all.1)

    pub no_fewer : length seats ≤ length all
    no_fewer = omega (arith, ap length once_all.0, length-append seats (placements left (joiners batch)))

    all_are : all ≡ seats ++ came
    all_are = once_all.0 ∙ ap (λ l. seats ++ l) (sym those)

    pub within_came : All (λ (seat : Seat). seat.place < length before) came
    within_came = of_places (λ place. place < length before) came both.1.within

    pub within_rest : All (λ place. place < length before) (drop vacant.passed vacant.left)
    within_rest = rest_within depth before long (leavers batch) vacant v order_vacant came both.1

    now_is : (all : List Seat) → all ≡ seats ++ came → seated before all ≡ seated left came
    now_is all is = ap (seated before) (is ∙ ap (λ l. l ++ came) seats_are) ∙ seated_append before (vacancies before (leavers batch)) came

    pub seating_is : (seating : Seating) → seating.seats ≡ all → seating.joined ≡ leaves_taken (length before) came
        → seating.leaves ≡ reverse (map (changed_leaf (length before) true) (places_of came) ++ map (changed_leaf (length before) false) (drop vacant.passed vacant.left))
        → seating.members ≡ member_count before - length seats + length came
        → IsSeating depth before batch seating
    seating_is seating seats_then joined leaves members =
        let whole : seating.seats ≡ seats ++ came = seats_then ∙ all_are in
        let now = now_is seating.seats whole in
        record {
          seats = whole ∙ (λ i. seats_are i ++ both.0 i);
          within = subst (All (λ (seat : Seat). seat.place < length before)) (sym whole)
              (All-append (λ (seat : Seat). seat.place < length before) seats came (of_places (λ place. place < length before) seats within_left) within_came);
          joined = joined
              ∙ ap (λ l. l ++ leaves_taken (length before) came) (sym (ap (leaves_taken (length before)) seats_are ∙ none_taken (length before) before (leavers batch)))
              ∙ sym (filter_map-append (leaf_taken (length before)) seats came)
              ∙ (λ i. leaves_taken (long i) (sym whole i));
          leaves = leaves
              ∙ (λ i. reverse (map (changed_leaf (long i) true) (places_of came) ++ map (changed_leaf (long i) false) (drop vacant.passed vacant.left)))
              ∙ ap reverse (changed_are depth before long (leavers batch) vacant v order_vacant came both.1)
              ∙ (λ i. reverse (map (renewal depth before (sym now i)) (filter (some_leaf_below depth (changed_leaves before (sym now i))) (range_with_len (2 ^ depth) (2 ^ depth)))));
          members = members
              ∙ omega (arith, ap length seats_are, members_left before (leavers batch) (leavers_once batch fits.once), both.1.members, length-map came (λ (seat : Seat). seat.place))
              ∙ ap member_count (sym now);
        }
