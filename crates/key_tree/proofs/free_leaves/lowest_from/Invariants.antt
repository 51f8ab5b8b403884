use Rattle.std.proofs.Common.{◌^◌, ◌<◌}
use Rattle.key_tree.proofs.LowestLemmas.{IsGoingUp}
use Rattle.key_tree.proofs.free_leaves.lowest_from.Given as goal

abbrev pub invariant-loop-height : goal.invariant-loop-height
invariant-loop-height l = record { low : l.from < 2 ^ l.depth; up : IsGoingUp l.depth l.marks.leaves l.from l.height l.v }
