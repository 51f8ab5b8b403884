use Rattle.group_terms.proofs.MarkLemmas.{MarkedFrom}
use Rattle.group_terms.proofs.marks.mark_inner.Given as goal

abbrev pub invariant-loop-v : goal.invariant-loop-v
invariant-loop-v l = MarkedFrom l.depth l.leaves l.v l.marks
