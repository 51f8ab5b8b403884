use Rattle.std.proofs.Common.{◌≡◌, ◌+◌, subst, sym, None}
use Rattle.std.specs.List.{find}
use Rattle.kd_wire.specs.Spans.{span_arrays}
use Rattle.member_store.specs.Takings.{TakesNext, can_take, keys_given}
use Rattle.member_store.proofs.StepLemmas.{IsSoFar, so_far_all, so_far_more, so_far_none, so_far_whole}
use Rattle.member_store.proofs.takings.all_taken.Goals as goal

pub loop-init : goal.loop-init
loop-init c =
    let given = keys_given (span_arrays c.args.span.now c.args.body.now) in
    subst (λ taken. IsSoFar c.args.path.now given taken 0) (sym c.new-taken.ensures) (so_far_none c.args.path.now given)

pub returns-in_default : goal.returns-in_default
returns-in_default c =
    let none = subst (λ taken. find (can_take c.args.path.now taken) (keys_given c.arrays.result) ≡ None)
    c.as_slice.ensures.value c.in_default.ensures.none in
    so_far_all c.args.path.now (keys_given (span_arrays c.args.span.now c.args.body.now)) c.loop.taken.items c.loop.index c.loop.invariant
    (subst (λ arrays. find (can_take c.args.path.now c.loop.taken.items) (keys_given arrays) ≡ None) c.arrays.ensures none)

pub loop-preserved : goal.loop-preserved
loop-preserved c =
    let given = keys_given (span_arrays c.args.span.now c.args.body.now) in
    let next = subst (λ taken. TakesNext c.args.path.now taken (keys_given c.arrays.result) c.in-Some.key)
    c.as_slice.ensures.value c.in-Some.ensures.some in
    subst (λ taken. IsSoFar c.args.path.now given taken (c.loop.index + 1)) (sym c.push.ensures.items)
    (so_far_more c.args.path.now given c.loop.taken.items c.loop.index c.in-Some.key c.loop.invariant
    (subst (λ arrays. TakesNext c.args.path.now c.loop.taken.items (keys_given arrays) c.in-Some.key) c.arrays.ensures next))

pub returns : goal.returns
returns c =
    so_far_whole c.args.path.now (keys_given (span_arrays c.args.span.now c.args.body.now)) c.loop.taken.items c.loop.index c.loop.invariant
    c.loop-test.false
