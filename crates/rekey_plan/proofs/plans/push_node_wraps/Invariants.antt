use Rattle.std.proofs.Common.{◌≡◌, ◌++◌, drop}
use Rattle.key_tree.specs.Marks.{ids_renewed}
use Rattle.rekey_plan.specs.Private.Plans.{wraps_up}
use Rattle.rekey_plan.proofs.plans.push_node_wraps.Given as goal

-- those of the positions that were passed
abbrev pub invariant-loop-i : goal.invariant-loop-i
invariant-loop-i l = l.wraps ≡ l.fn.wraps ++ wraps_up l.tree l.marked (ids_renewed (drop l.i l.renewed))
