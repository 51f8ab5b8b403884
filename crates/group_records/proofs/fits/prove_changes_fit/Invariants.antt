use Rattle.std.proofs.Common.{take}
use Rattle.std.specs.List.{All}
use Rattle.group_records.specs.Fits.{IsNamed}
use Rattle.group_records.proofs.fits.prove_changes_fit.Given as goal

abbrev pub invariant-loop-change : goal.invariant-loop-change
invariant-loop-change l = All IsNamed (take l.change-index l.fn.changes)
