use Rattle.std.proofs.Common.{◌-◌}
use Rattle.key_tree.proofs.LowestLemmas.{IsGoingDown}
use Rattle.key_tree.proofs.free_leaves.lowest_below.Given as goal

abbrev pub invariant-loop : goal.invariant-loop
invariant-loop l = IsGoingDown l.depth l.marks.leaves l.height l.top (l.height - l.counter) l.v
