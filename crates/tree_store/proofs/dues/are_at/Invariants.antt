use Rattle.std.proofs.Common.{◌≡◌, take}
use Rattle.group_values.specs.Values.{ids_of}
use Rattle.tree_store.proofs.dues.are_at.Given as goal

-- the positions so far are the same
abbrev pub invariant-loop-i : goal.invariant-loop-i
invariant-loop-i l = ids_of (take l.i l.nodes) ≡ take l.i l.positions
