use Rattle.std.proofs.Common.{take_all, subst, arith}
use Rattle.std.specs.List.{All}
use Rattle.std.proofs.lemmas.List.Elements.{All-more}
use Rattle.group_records.specs.Fits.{IsNamed}
use Rattle.group_records.proofs.fits.prove_changes_fit.Goals as goal

pub loop-change-preserved : goal.loop-change-preserved
loop-change-preserved c =
    let fits = subst IsNamed c.change-item.is c.prove_change_fits.ensures in
    All-more IsNamed c.args.changes.now c.loop-change.change-index c.change-item.result c.loop-change-test.true c.loop-change.invariant fits

pub returns : goal.returns
returns c = subst (All IsNamed) (take_all c.loop-change.change-index c.args.changes.now (omega arith)) c.loop-change.invariant
