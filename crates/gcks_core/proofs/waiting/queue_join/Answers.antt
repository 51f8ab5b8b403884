use Rattle.std.proofs.Common.{◌∙◌, sym, subst, refl}
use Rattle.std.specs.Prelude.{IsOk}
use Rattle.group_model.specs.Places.{Fits}
use Rattle.gcks_core.proofs.WaitLemmas.{is_added}
use Rattle.gcks_core.proofs.waiting.queue_join.Goals as goal

pub unwrap-requires : goal.unwrap-requires
unwrap-requires c =
    let tree = c.args.tree.now in
    let none = sym c.why_no_join.ensures.why ∙ c.in_default.is in
    let added = is_added c.args.needs_reopen tree.depth tree.holders c.args.queue.now c.args.member.now none in
    subst IsOk (sym (c.add.ensures.answer ∙ added)) refl

pub returns-clause-fits : goal.returns-clause-fits
returns-clause-fits c =
    let added = rw c.unwrap.ensures at c.add.ensures.ok in
    subst (Fits c.args.tree.now.holders) (sym added) (c.why_no_join.ensures.fits c.in_default.is c.requires.stranger)
