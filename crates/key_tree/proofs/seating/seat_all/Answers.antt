use Rattle.std.proofs.Common.{◌≡◌, ◌∙◌, ℕ, ◌+◌, ◌-◌, ◌^◌, ◌<◌, ◌≤◌, ◌++◌, false, true, eqb, List, length, map, drop, refl, sym, ap, subst, arith}
use Rattle.std.specs.Prelude.{is_none, reverse}
use Rattle.std.proofs.Math.Pow.{pow_mono}
use Rattle.std.specs.List.{All, IsDistinct}
use Rattle.std.specs.List.Sorted.{IsPermutation}
use Rattle.group_terms.specs.LeafMarks.{Marked as LeafMarked}
use Rattle.group_model.specs.Places.{Holders}
use Rattle.group_terms.specs.Changes.{joiners}
use Rattle.key_tree.specs.declared.marks.Seat.{Seat}
use Rattle.key_tree.specs.Private.Seats.{IsLeft, changed_leaf, placements, places_of}
use Rattle.key_tree.proofs.SeatingLemmas.{fewer_left, low_left, no_fewer, once_left, seating_is, within_came, within_rest}
use Rattle.key_tree.proofs.seating.seat_all.Goals as goal

few : (depth n : ℕ) → depth ≤ 9 → n ≡ 2 ^ depth → n ≤ 512
few depth n not_deep is = omega (arith, is, pow_mono {i = depth} {j = 9} not_deep)

pub places-requires : goal.places-requires
places-requires c =
    subst (λ seats. IsDistinct eqb (places_of seats)) (sym c.as_slice.ensures)
    (once_left c.args.holders.now c.args.batch.now c.requires.fits c.in_ok-seats.seats c.in_ok-seats.ensures)

pub new-vacant-requires-clause-low : goal.new-vacant-requires-clause-low
new-vacant-requires-clause-low c =
    low_left c.args.holders.now c.args.batch.now c.requires.fits c.as_slice.result.now (c.as_slice.ensures ∙ c.in_ok-seats.ensures) c.in_ok-places.field-0
    c.in_ok-places.ensures.same (few c.args.depth (length c.args.holders.now) c.requires.not_deep c.requires.leaves)

pub changed_leaves-requires-clause-few : goal.changed_leaves-requires-clause-few
changed_leaves-requires-clause-few c = few c.args.depth (length c.args.holders.now) c.requires.not_deep c.requires.leaves

pub leaves_of-requires-clause-few : goal.leaves_of-requires-clause-few
leaves_of-requires-clause-few c = few c.args.depth (length c.args.holders.now) c.requires.not_deep c.requires.leaves

pub from_place-came-requires : goal.from_place-came-requires
from_place-came-requires c =
    let before : Holders = c.args.holders.now in
    let batch = c.args.batch.now in
    let seats : List Seat = c.as_slice.result.now in
    let all : List Seat = c.take_all.new.seats in
    let free : c.args.free.now.leaves ≡ map is_none before = ap (λ (marks : LeafMarked). marks.leaves) c.requires.free in
    let lefts : c.len-left.result ≡ length seats = c.len-left.ensures ∙ ap length (sym c.as_slice.ensures) in
    let fewer : length seats ≤ length all =
    no_fewer before batch c.requires.fits seats (c.as_slice.ensures ∙ c.in_ok-seats.ensures) c.args.depth c.requires.leaves c.new-vacant.result.left
    (subst (IsPermutation (places_of seats)) (sym c.new-vacant.ensures.left) c.in_ok-places.ensures.same) c.take_all.new.vacant c.take_all.ensures.vacant c.take_all.ensures.left
    all (drop (length seats) all) refl
    (λ left h.
    let taken = c.in_ok-take_all.ensures.taken before left (subst (λ free. IsLeft before left free c.new-vacant.result.left) (sym free) h) c.requires.fits.from_strangers in
    (taken.0 ∙ ap (λ l. l ++ placements left (joiners batch)) (sym c.as_slice.ensures), taken.1)) in
    omega (arith, fewer, lefts, ap length c.as_slice-2.ensures)

pub changed_leaves-requires-clause-taken : goal.changed_leaves-requires-clause-taken
changed_leaves-requires-clause-taken c =
    let before : Holders = c.args.holders.now in
    let batch = c.args.batch.now in
    let seats : List Seat = c.as_slice.result.now in
    let all : List Seat = c.take_all.new.seats in
    let free : c.args.free.now.leaves ≡ map is_none before = ap (λ (marks : LeafMarked). marks.leaves) c.requires.free in
    let lefts : c.len-left.result ≡ length seats = c.len-left.ensures ∙ ap length (sym c.as_slice.ensures) in
    within_came before batch c.requires.fits seats (c.as_slice.ensures ∙ c.in_ok-seats.ensures) c.args.depth c.requires.leaves c.new-vacant.result.left
    (subst (IsPermutation (places_of seats)) (sym c.new-vacant.ensures.left) c.in_ok-places.ensures.same) c.take_all.new.vacant c.take_all.ensures.vacant c.take_all.ensures.left
    all c.from_place-came.result.now (c.from_place-came.ensures ∙ (λ i. drop (lefts i) (c.as_slice-2.ensures i)))
    (λ left h.
    let taken = c.in_ok-take_all.ensures.taken before left (subst (λ free. IsLeft before left free c.new-vacant.result.left) (sym free) h) c.requires.fits.from_strangers in
    (taken.0 ∙ ap (λ l. l ++ placements left (joiners batch)) (sym c.as_slice.ensures), taken.1))

pub changed_leaves-requires-clause-left : goal.changed_leaves-requires-clause-left
changed_leaves-requires-clause-left c =
    let before : Holders = c.args.holders.now in
    let batch = c.args.batch.now in
    let seats : List Seat = c.as_slice.result.now in
    let all : List Seat = c.take_all.new.seats in
    let free : c.args.free.now.leaves ≡ map is_none before = ap (λ (marks : LeafMarked). marks.leaves) c.requires.free in
    let lefts : c.len-left.result ≡ length seats = c.len-left.ensures ∙ ap length (sym c.as_slice.ensures) in
    subst (All (λ place. place < length before)) (sym c.rest.ensures)
    (within_rest before batch c.requires.fits seats (c.as_slice.ensures ∙ c.in_ok-seats.ensures) c.args.depth c.requires.leaves c.new-vacant.result.left
    (subst (IsPermutation (places_of seats)) (sym c.new-vacant.ensures.left) c.in_ok-places.ensures.same) c.take_all.new.vacant c.take_all.ensures.vacant c.take_all.ensures.left
    all c.from_place-came.result.now (c.from_place-came.ensures ∙ (λ i. drop (lefts i) (c.as_slice-2.ensures i)))
    (λ left h.
    let taken = c.in_ok-take_all.ensures.taken before left (subst (λ free. IsLeft before left free c.new-vacant.result.left) (sym free) h) c.requires.fits.from_strangers in
    (taken.0 ∙ ap (λ l. l ++ placements left (joiners batch)) (sym c.as_slice.ensures), taken.1)))

pub leaves_of-requires-clause-within : goal.leaves_of-requires-clause-within
leaves_of-requires-clause-within c =
    let before : Holders = c.args.holders.now in
    let batch = c.args.batch.now in
    let seats : List Seat = c.as_slice.result.now in
    let all : List Seat = c.take_all.new.seats in
    let free : c.args.free.now.leaves ≡ map is_none before = ap (λ (marks : LeafMarked). marks.leaves) c.requires.free in
    let lefts : c.len-left.result ≡ length seats = c.len-left.ensures ∙ ap length (sym c.as_slice.ensures) in
    within_came before batch c.requires.fits seats (c.as_slice.ensures ∙ c.in_ok-seats.ensures) c.args.depth c.requires.leaves c.new-vacant.result.left
    (subst (IsPermutation (places_of seats)) (sym c.new-vacant.ensures.left) c.in_ok-places.ensures.same) c.take_all.new.vacant c.take_all.ensures.vacant c.take_all.ensures.left
    all c.from_place-came.result.now (c.from_place-came.ensures ∙ (λ i. drop (lefts i) (c.as_slice-2.ensures i)))
    (λ left h.
    let taken = c.in_ok-take_all.ensures.taken before left (subst (λ free. IsLeft before left free c.new-vacant.result.left) (sym free) h) c.requires.fits.from_strangers in
    (taken.0 ∙ ap (λ l. l ++ placements left (joiners batch)) (sym c.as_slice.ensures), taken.1))

pub overflow_sub-members : goal.overflow_sub-members
overflow_sub-members c =
    omega (arith, c.len-left.ensures, c.requires.members, fewer_left c.args.holders.now c.args.batch.now c.requires.fits c.in_ok-seats.seats c.in_ok-seats.ensures)

pub returns : goal.returns
returns c =
    let before : Holders = c.args.holders.now in
    let batch = c.args.batch.now in
    let seats : List Seat = c.as_slice.result.now in
    let all : List Seat = c.take_all.new.seats in
    let free : c.args.free.now.leaves ≡ map is_none before = ap (λ (marks : LeafMarked). marks.leaves) c.requires.free in
    let lefts : c.len-left.result ≡ length seats = c.len-left.ensures ∙ ap length (sym c.as_slice.ensures) in
    let came : List Seat = c.from_place-came.result.now in
    seating_is before batch c.requires.fits seats (c.as_slice.ensures ∙ c.in_ok-seats.ensures) c.args.depth c.requires.leaves c.new-vacant.result.left
    (subst (IsPermutation (places_of seats)) (sym c.new-vacant.ensures.left) c.in_ok-places.ensures.same) c.take_all.new.vacant c.take_all.ensures.vacant c.take_all.ensures.left
    all came (c.from_place-came.ensures ∙ (λ i. drop (lefts i) (c.as_slice-2.ensures i)))
    (λ left h.
    let taken = c.in_ok-take_all.ensures.taken before left (subst (λ free. IsLeft before left free c.new-vacant.result.left) (sym free) h) c.requires.fits.from_strangers in
    (taken.0 ∙ ap (λ l. l ++ placements left (joiners batch)) (sym c.as_slice.ensures), taken.1))
    (record { seats = all; joined = c.in_ok-joined.joined; leaves = c.in_ok-leaves.leaves; members = c.args.members - c.len-left.result + length came })
    refl c.in_ok-joined.ensures
    (c.in_ok-leaves.ensures ∙ ap (λ rest. reverse (map (changed_leaf (length before) true) (places_of came) ++ map (changed_leaf (length before) false) rest)) c.rest.ensures)
    (λ i. c.requires.members i - lefts i + length came)
