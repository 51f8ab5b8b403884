use Rattle.std.proofs.Common.{◌≡◌, ◌+◌, subst, sym, None}
use Rattle.std.specs.List.{find}
use Rattle.member_store.specs.Takings.{TakesNext, can_take}
use Rattle.member_store.proofs.StepLemmas.{IsSoFar, so_far_all, so_far_more, so_far_none, so_far_whole}
use Rattle.member_store.proofs.takings.dues_taken.Goals as goal

pub loop-init : goal.loop-init
loop-init c = subst (λ taken. IsSoFar c.args.path.now c.args.due.now taken 0) (sym c.new-taken.ensures) (so_far_none c.args.path.now c.args.due.now)

pub returns-in_default : goal.returns-in_default
returns-in_default c =
    so_far_all c.args.path.now c.args.due.now c.loop.taken.items c.loop.index c.loop.invariant
    (subst (λ taken. find (can_take c.args.path.now taken) c.args.due.now ≡ None) c.as_slice.ensures.value c.in_default.ensures.none)

pub loop-preserved : goal.loop-preserved
loop-preserved c =
    subst (λ taken. IsSoFar c.args.path.now c.args.due.now taken (c.loop.index + 1)) (sym c.push.ensures.items)
    (so_far_more c.args.path.now c.args.due.now c.loop.taken.items c.loop.index c.in-Some.key c.loop.invariant
    (subst (λ taken. TakesNext c.args.path.now taken c.args.due.now c.in-Some.key) c.as_slice.ensures.value c.in-Some.ensures.some))

pub returns : goal.returns
returns c =
    so_far_whole c.args.path.now c.args.due.now c.loop.taken.items c.loop.index c.loop.invariant c.loop-test.false
