-- No encryptions at epoch 0; the two trees of a later one.
use Rattle.std.proofs.Common.{◌≡◌, sym, ap, subst, ◌∙◌, arith}
use Rattle.std.proofs.lemmas.Result.{IfOk-weaker}
use Rattle.group_model.specs.Wraps.{wraps_at}
use Rattle.group_model.specs.Private.Trees.{StandsAt, wraps_between}
use Rattle.group_model.proofs.WrapLemmas.{wraps_at-first, wraps_at-between}
use Rattle.group_model.proofs.history.History.wraps.Goals as goal

pub returns-in_default : goal.returns-in_default
returns-in_default c =
    c.new.ensures ∙ sym (wraps_at-first c.args.self.now.depth c.args.self.now.batches c.args.epoch (omega (arith, c.in_default.ensures)))

pub returns : goal.returns
returns c =
    let history = c.args.self.now in
    let stood = subst (λ epoch. StandsAt history.depth history.batches epoch c.in_ok-before.before) (c.in-Some.ensures.1) c.in_ok-before.ensures.stands in
    IfOk-weaker c.wraps.result (λ wraps. wraps ≡ wraps_between c.depth.result c.in_ok-before.before.holders c.in_ok-after.after c.args.epoch) (λ wraps. wraps ≡ wraps_at history.depth history.batches c.args.epoch)
    (λ wraps is. is ∙ ap (λ depth. wraps_between depth c.in_ok-before.before.holders c.in_ok-after.after c.args.epoch) c.depth.ensures.depth
    ∙ wraps_at-between history.depth history.batches c.args.epoch c.in_ok-before.before c.in_ok-after.after c.in_ok-after.ensures.valid (omega (arith, c.in-Some.ensures.0)) c.requires stood
    (subst (λ epoch. StandsAt history.depth history.batches epoch c.in_ok-after.after) (omega (arith, c.in-Some.ensures.0, c.in-Some.ensures.1)) c.in_ok-after.ensures.stands))
    c.wraps.ensures
