use Rattle.group_model.proofs.HandoverLemmas.{handed_over-more, handed_over-all}
use Rattle.group_model.proofs.handovers.handovers.Goals as goal

pub loop-i-preserved : goal.loop-i-preserved
loop-i-preserved c =
    rw (c.in_ok-hand_over.ensures, c.position-leaf.ensures) (handed_over-more _ c.loop-i.i c.args.before.now c.args.after.now c.index-before-i.result c.index-after-i.result c.loop-i.handovers _ c.requires.same c.loop-i-test.true c.index-before-i.is c.index-after-i.is c.loop-i.invariant)

pub returns : goal.returns
returns c = handed_over-all _ c.loop-i.i c.args.before.now c.args.after.now c.loop-i.handovers _ c.requires.same c.loop-i-test.false c.loop-i.invariant
