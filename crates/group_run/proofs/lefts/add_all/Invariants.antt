use Rattle.group_run.proofs.WayLemmas.{AreFrom}
use Rattle.group_run.proofs.lefts.add_all.Given as goal

-- what the entry sent from this place on comes before what was there
abbrev pub invariant-loop-at : goal.invariant-loop-at
invariant-loop-at l = AreFrom l.lost l.entry l.place l.at l.fn.lefts l.lefts
