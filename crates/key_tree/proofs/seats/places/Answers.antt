use Rattle.std.proofs.Common.{◌∙◌, ◌++◌, eqb, length, sym, ap, subst, arith}
use Rattle.std.specs.List.{IsDistinct}
use Rattle.std.proofs.lemmas.List.{append-nil, drop_all}
use Rattle.group_values.specs.Values.{Rises}
use Rattle.key_tree.specs.Private.Seats.{places_of}
use Rattle.key_tree.proofs.DrawLemmas.{written_over}
use Rattle.key_tree.proofs.RisingLemmas.{rises_sorted}
use Rattle.key_tree.proofs.seats.places.Goals as goal

pub returns-clause-rises : goal.returns-clause-rises
returns-clause-rises c =
    let sorted = c.sort_unstable.new.self in
    let all = c.as_mut_slice.ensures.value in
    let distinct : IsDistinct eqb c.as_mut_slice.result.now =
    subst (IsDistinct eqb)
    (sym (all ∙ (sym (append-nil c.loop-seat.places) ∙ ap (λ seats. c.loop-seat.places ++ places_of seats) (sym (drop_all c.loop-seat.seat-index c.args.seats.now (omega (arith, c.loop-seat-test.false))))
    ∙ c.loop-seat.invariant))) c.requires in
    subst Rises (sym (written_over c.loop-seat.places sorted (c.sort_unstable.ensures.len ∙ ap length all)))
    (rises_sorted c.as_mut_slice.result.now sorted c.sort_unstable.ensures.permutation c.sort_unstable.ensures.sorted distinct)
