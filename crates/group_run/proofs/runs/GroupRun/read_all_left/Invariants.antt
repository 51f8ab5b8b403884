use Rattle.std.proofs.Common.{length}
use Rattle.group_run.proofs.PopLemmas.{IsPopping}
use Rattle.group_run.proofs.runs.GroupRun.read_all_left.Given as goal

abbrev pub invariant-lefts : goal.invariant-lefts
invariant-lefts g l = record { popping : IsPopping g.D.Disk g.G.Signer g.R.Draws l.fn.self l.self l.fn.lefts l.lefts }

abbrev pub decreases-lefts : goal.decreases-lefts
decreases-lefts g l = length l.lefts
