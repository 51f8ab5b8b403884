-- The last batch that says where the member went is the one that tells; at epoch 0 nobody has a leaf.
use Rattle.std.proofs.Common.{sym, ◌∙◌, arith}
use Rattle.group_model.proofs.EpochLemmas.{place_in-first}
use Rattle.group_model.proofs.HandoverLemmas.{place_at-taken, place_at-left, place_at-kept}
use Rattle.group_model.proofs.history.History.place.Goals as goal

pub returns-in-Some : goal.returns-in-Some
returns-in-Some c =
    let history = c.args.self.now in
    let handovers = c.handovers-handovers in
    sym (place_at-taken history.depth c.loop-index.index history.batches handovers.result.now c.loop-index-test.true handovers.ensures.handovers c.args.member.now handovers.ensures.valid c.in-Some.leaf (sym c.taken_by.ensures ∙ c.in-Some.is))
    ∙ c.loop-index.invariant

pub returns-then-was_of : goal.returns-then-was_of
returns-then-was_of c =
    let history = c.args.self.now in
    let handovers = c.handovers-handovers in
    sym (place_at-left history.depth c.loop-index.index history.batches handovers.result.now c.loop-index-test.true handovers.ensures.handovers c.args.member.now handovers.ensures.valid (sym c.taken_by.ensures ∙ c.in_default.is) (sym c.was_of.ensures ∙ c.if-was_of.true))
    ∙ c.loop-index.invariant

pub loop-index-preserved : goal.loop-index-preserved
loop-index-preserved c =
    let history = c.args.self.now in
    let handovers = c.handovers-handovers in
    sym (place_at-kept history.depth c.loop-index.index history.batches handovers.result.now c.loop-index-test.true handovers.ensures.handovers c.args.member.now handovers.ensures.valid (sym c.taken_by.ensures ∙ c.in_default.is) (sym c.was_of.ensures ∙ c.if-was_of.false))
    ∙ c.loop-index.invariant

pub returns : goal.returns
returns c =
    let history = c.args.self.now in
    place_in-first history.depth history.batches c.loop-index.index c.args.member.now (omega (arith, c.loop-index-test.false)) ∙ c.loop-index.invariant
