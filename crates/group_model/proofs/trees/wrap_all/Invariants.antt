use Rattle.std.proofs.Common.{◌≡◌, ◌++◌, ◌-◌}
use Rattle.group_model.specs.Private.Trees.{wraps_down}
use Rattle.group_model.proofs.trees.wrap_all.Given as goal

-- the encryptions so far, and those of the positions that are left
abbrev pub invariant-loop-v : goal.invariant-loop-v
invariant-loop-v l =
    l.wraps ++ wraps_down l.epoch l.made l.marks (l.v - 1) ≡ l.fn.wraps ++ wraps_down l.epoch l.made l.marks l.inner
