use Rattle.std.proofs.Common.{◌∙◌, ap, sym}
use Rattle.std.specs.List.{find}
use Rattle.member_store.specs.Takings.{can_take}
use Rattle.member_store.proofs.FindLemmas.{found_after}
use Rattle.member_store.proofs.TakingLemmas.{takes_first}
use Rattle.member_store.proofs.takings.next_of.Goals as goal

pub returns-in-Some-taken_key-clause-some : goal.returns-in-Some-taken_key-clause-some
returns-in-Some-taken_key-clause-some c =
    let found = c.in-Some-taken_key.ensures.some in
    takes_first c.args.path.now c.args.taken.now c.in-Some.given c.next.new.self c.args.keys found.0 c.in-Some-taken_key.key
    (sym c.in-Some-taken_key.ensures.can)
    (sym (ap (find (can_take c.args.path.now c.args.taken.now)) c.in-Some.ensures.steps) ∙ c.loop-given.invariant)
    found.1 found.2

pub loop-given-preserved : goal.loop-given-preserved
loop-given-preserved c =
    sym (found_after (can_take c.args.path.now c.args.taken.now) c.in-Some.given c.next.new.self (sym c.in_default.ensures.can))
    ∙ (sym (ap (find (can_take c.args.path.now c.args.taken.now)) c.in-Some.ensures.steps) ∙ c.loop-given.invariant)
