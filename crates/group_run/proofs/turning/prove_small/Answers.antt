use Rattle.std.proofs.Common.{subst, sym, take}
use Rattle.std.specs.List.{All}
use Rattle.std.proofs.lemmas.List.{take_all}
use Rattle.std.proofs.lemmas.List.Elements.{All-push}
use Rattle.group_run.specs.Private.Ran.{IsSmall}
use Rattle.group_run.proofs.NoteLemmas.{take_is}
use Rattle.group_run.proofs.turning.prove_small.Goals as goal

pub loop-place-preserved : goal.loop-place-preserved
loop-place-preserved c =
    let entries = c.args.entries.now in
    let entry = c.index-entries-place.result in
    let place = c.loop-place.place in
    subst (All IsSmall) (sym (take_is entries entry place c.loop-place-test.true c.index-entries-place.is))
    (All-push IsSmall (take place entries) entry c.loop-place.invariant c.prove_small_one.ensures)

pub returns : goal.returns
returns c = subst (All IsSmall) (take_all c.loop-place.place c.args.entries.now c.loop-place-test.false) c.loop-place.invariant
