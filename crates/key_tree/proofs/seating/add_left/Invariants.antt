use Rattle.std.proofs.Common.{◌≡◌, ◌++◌, false, map, drop}
use Rattle.key_tree.specs.Private.Seats.{changed_leaf}
use Rattle.key_tree.proofs.seating.add_left.Given as goal

-- those so far, and those that are left
abbrev pub invariant-loop-place : goal.invariant-loop-place
invariant-loop-place l = l.leaves ++ map (changed_leaf l.first false) (drop l.place-index l.left) ≡ l.fn.leaves ++ map (changed_leaf l.first false) l.left
