use Rattle.std.proofs.Common.{◌≡◌, ◌-◌, ◌+◌, ◌<◌, ◌*◌, ◌^◌, false, get_or, refl, arith, subst}
use Rattle.group_terms.proofs.MarkLemmas.{MarkedFrom, MarkedFrom-leaves, MarkedFrom-more, MarkedFrom-later, MarkedFrom-all}
use Rattle.group_terms.proofs.marks.mark_inner.Goals as goal

pub loop-v-init : goal.loop-v-init
loop-v-init c = rw (c.requires.leaves, c.requires.below) (MarkedFrom-leaves c.args.depth c.args.leaves.now c.requires.leaves)

pub loop-v-preserved : goal.loop-v-preserved
loop-v-preserved c =
    let above : c.loop-v.v ≡ c.loop-v.v - 1 + 1 = omega (arith, c.loop-v-test.true) in
    let inner : c.loop-v.v - 1 < 2 ^ c.args.depth = omega (arith, c.loop-v-test.true, c.loop-v.auto.v, c.requires.leaves) in
    MarkedFrom-more c.args.depth c.args.leaves.now c.loop-v.marks (c.loop-v.v - 1) (get_or c.loop-v.marks (2 * (c.loop-v.v - 1)) false) (get_or c.loop-v.marks (2 * (c.loop-v.v - 1) + 1) false) c.requires.leaves (omega (arith, c.loop-v-test.true)) inner refl refl
    (subst (λ k. MarkedFrom c.args.depth c.args.leaves.now k c.loop-v.marks) above c.loop-v.invariant)

pub returns : goal.returns
returns c = MarkedFrom-all c.args.depth c.args.leaves.now c.loop-v.marks (MarkedFrom-later c.args.depth c.args.leaves.now c.loop-v.marks c.loop-v.v 1 (omega (arith, c.loop-v-test.false)) c.loop-v.invariant)
