use Rattle.std.proofs.Common.{◌∙◌, ap, sym}
use Rattle.std.specs.List.{find}
use Rattle.member_store.specs.Takings.{can_take, keys_given}
use Rattle.member_store.proofs.FindLemmas.{found_later}
use Rattle.member_store.proofs.TakingLemmas.{takes_in_front}
use Rattle.member_store.proofs.takings.next_key.Goals as goal

pub returns-in-Some-next_of-clause-some : goal.returns-in-Some-next_of-clause-some
returns-in-Some-next_of-clause-some c =
    takes_in_front c.args.path.now c.args.taken.now c.in-Some.array.keys (keys_given c.next.new.self) (keys_given c.args.arrays) c.in-Some-next_of.key
    (sym (ap (λ arrays. find (can_take c.args.path.now c.args.taken.now) (keys_given arrays)) c.in-Some.ensures.steps) ∙ c.loop-array.invariant)
    c.in-Some-next_of.ensures.some

pub loop-array-preserved : goal.loop-array-preserved
loop-array-preserved c =
    sym (found_later (can_take c.args.path.now c.args.taken.now) c.in-Some.array.keys (keys_given c.next.new.self) c.in_default.ensures.none)
    ∙ (sym (ap (λ arrays. find (can_take c.args.path.now c.args.taken.now) (keys_given arrays)) c.in-Some.ensures.steps) ∙ c.loop-array.invariant)
