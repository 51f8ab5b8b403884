use Rattle.std.proofs.Common.{◌≡◌, ◌∙◌, ◌+◌, ◌∷◌, ◌++◌, drop, get_or, sym, ap, arith}
use Rattle.key_tree.specs.Private.Levels.{IsBelowRoot, above}
use Rattle.key_tree.proofs.GrowingLemmas.{begins_more, each_later, left_at_start}
use Rattle.key_tree.proofs.levels.add_above.Goals as goal

pub go_on-requires-clause-next : goal.go_on-requires-clause-next
go_on-requires-clause-next c =
    let next = c.index-as_slice-place.result in
    let place = c.loop-place.place in
    each_later c.args.positions.now c.loop-place.positions c.loop-place.invariant.begins (IsBelowRoot c.args.held.now.depth) c.args.first place next
    c.requires.below (omega (arith, c.loop-place.auto.place)) (omega (arith, c.loop-place-test.true, c.len-end.ensures))
    (c.index-as_slice-place.is ∙ ap (λ l. get_or l place next) c.as_slice.ensures)

pub loop-place-preserved : goal.loop-place-preserved
loop-place-preserved c =
    let held = c.args.held.now in
    let start = c.args.positions.now in
    let was = c.loop-place.invariant in
    let next = c.index-as_slice-place.result in
    let place = c.loop-place.place in
    let left : drop place start ≡ next ∷ drop (place + 1) start =
    left_at_start start c.loop-place.positions was.begins place next (omega (arith, c.loop-place-test.true, c.len-end.ensures))
    (c.index-as_slice-place.is ∙ ap (λ l. get_or l place next) c.as_slice.ensures) in
    record {
      all = c.in_ok-waiting.ensures.above (drop (place + 1) start) ∙ ap (λ rest. c.loop-place.positions ++ above held c.loop-place.waiting rest) (sym left) ∙ was.all;
      begins = begins_more start c.loop-place.positions was.begins c.go_on.new.positions c.in_ok-waiting.ensures.begins;
      waiting = c.in_ok-waiting.ensures.waits;
    }
