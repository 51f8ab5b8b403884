use Rattle.group_run.proofs.DueLemmas.{Leaves}
use Rattle.group_run.proofs.delivering.first_due.Given as goal

-- what is due from here on is all that was to be looked for
abbrev pub invariant-loop-place : goal.invariant-loop-place
invariant-loop-place g l = Leaves l.server.core.tree.holders l.peers.items l.pushes.items l.fn.from l.fn.number l.place l.after
