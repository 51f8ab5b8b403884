use Rattle.std.proofs.Common.{◌≡◌, Option, map, take, not}
use Rattle.std.specs.List.{zip}
use Rattle.group_terms.specs.Names.{Name}
use Rattle.tree_leaves.specs.Fresh.{is_same_holder}
use Rattle.tree_leaves.proofs.holders.changed.Given as goal

-- the answers for the leaves so far
abbrev pub invariant-loop-i : goal.invariant-loop-i
invariant-loop-i l = l.leaves ≡ map (λ (holder : Option Name × Option Name). not (is_same_holder holder.0 holder.1)) (take l.i (zip l.before l.after))
