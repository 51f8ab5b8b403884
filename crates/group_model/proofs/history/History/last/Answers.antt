-- The last batch that renews the position is the one that tells; at epoch 0 none has a key.
use Rattle.std.proofs.Common.{Some, sym, ap, ◌∙◌, arith}
use Rattle.group_model.specs.Private.Handovers.{renews}
use Rattle.group_model.proofs.EpochLemmas.{last_change-first}
use Rattle.group_model.proofs.HandoverLemmas.{last_change-renewed, last_change-stale}
use Rattle.group_model.proofs.history.History.last.Goals as goal

pub returns-then-renews : goal.returns-then-renews
returns-then-renews c =
    let history = c.args.self.now in
    let renewed = ap (λ depth. renews depth c.args.id c.handovers.result.now) (sym c.depth.ensures.depth) ∙ sym c.renews.ensures ∙ c.if-renews.true in
    ap Some (omega (arith, c.loop-index-test.true))
    ∙ sym (last_change-renewed history.depth c.loop-index.index history.batches c.handovers.result.now c.loop-index-test.true c.handovers.ensures.handovers c.args.id renewed)
    ∙ c.loop-index.invariant

pub loop-index-preserved : goal.loop-index-preserved
loop-index-preserved c =
    let history = c.args.self.now in
    let stale = ap (λ depth. renews depth c.args.id c.handovers.result.now) (sym c.depth.ensures.depth) ∙ sym c.renews.ensures ∙ c.if-renews.false in
    sym (last_change-stale history.depth c.loop-index.index history.batches c.handovers.result.now c.loop-index-test.true c.handovers.ensures.handovers c.args.id stale)
    ∙ c.loop-index.invariant

pub returns : goal.returns
returns c =
    let history = c.args.self.now in
    last_change-first history.depth history.batches c.loop-index.index c.args.id (omega (arith, c.loop-index-test.false)) ∙ c.loop-index.invariant
