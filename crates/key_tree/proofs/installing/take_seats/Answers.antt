use Rattle.std.proofs.Common.{◌∙◌, ◌+◌, ◌<◌, ◌∷◌, None, length, set, drop, sym, ap, arith}
use Rattle.std.specs.Prelude.{is_none, is_some}
use Rattle.std.proofs.lemmas.List.{drop_more, get_or_default, length-set, map-set}
use Rattle.key_tree.specs.declared.marks.Seat.{Seat}
use Rattle.key_tree.specs.Marks.{seated}
use Rattle.key_tree.proofs.SeatLemmas.{not_some}
use Rattle.key_tree.proofs.installing.take_seats.Goals as goal

pub loop-seat-preserved : goal.loop-seat-preserved
loop-seat-preserved c =
    let was = c.loop-seat in
    let seat = c.seat-item.result in
    let low : seat.place < length was.holders =
    omega (arith, was.invariant.long, ap (λ (it : Seat). it.place) c.seat-item.is, c.requires.within was.seat-index seat c.loop-seat-test.true) in
    record {
      rest = sym (ap (seated was.holders) (drop_more c.args.seats.now was.seat-index seat c.loop-seat-test.true ∙ ap (λ first. first ∷ drop (was.seat-index + 1) c.args.seats.now) (sym c.seat-item.is)))
          ∙ was.invariant.rest;
      long = length-set was.holders seat.place seat.holder ∙ was.invariant.long;
      index = c.follow.ensures was.holders was.invariant.index low
          (get_or_default was.holders seat.place None c.index-holders-seat.result low);
      held = c.set.ensures
          ∙ (λ i. record { depth = (was.invariant.held i).depth; leaves = set ((was.invariant.held i).leaves) seat.place (c.is_some.ensures i) })
          ∙ (λ i. record { depth = c.args.held.now.depth; leaves = sym (map-set is_some was.holders seat.place seat.holder) i });
      free = c.set-in-loop-seat.ensures
          ∙ (λ i. record { depth = (was.invariant.free i).depth; leaves = set ((was.invariant.free i).leaves) seat.place (not_some seat.holder c.is_none.result c.is_none.ensures i) })
          ∙ (λ i. record { depth = c.args.held.now.depth; leaves = sym (map-set is_none was.holders seat.place seat.holder) i });
    }
