use Rattle.std.proofs.Common.{◌∙◌, sym, subst}
use Rattle.group_terms.specs.declared.changes.Change.TheVariants.{Out}
use Rattle.group_model.specs.Places.{Fits}
use Rattle.gcks_core.proofs.WaitLemmas.{not_pending}
use Rattle.gcks_core.proofs.waiting.queue_leave.Goals as goal

pub returns-in-Ok-clause-fits : goal.returns-in-Ok-clause-fits
returns-in-Ok-clause-fits c =
    let tree = c.args.tree.now in
    let queue = c.args.queue.now in
    let m = c.args.member.now in
    subst (Fits tree.holders) (sym c.in-Ok.ensures.ok)
    (c.granted_changes_fit.ensures.leaves tree.holders queue m c.requires.fits (sym c.is_member.ensures.member ∙ c.if-not-is_member.false) (not_pending queue (Out m) c.in-Ok.ensures.answer))
