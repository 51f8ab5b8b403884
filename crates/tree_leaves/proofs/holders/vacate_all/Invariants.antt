use Rattle.std.proofs.Common.{◌≡◌, drop}
use Rattle.std.specs.List.{fold}
use Rattle.group_terms.specs.Changes.{leavers}
use Rattle.tree_leaves.specs.Places.{vacated}
use Rattle.tree_leaves.proofs.holders.vacate_all.Given as goal

-- those that are left make of the holders what all make of the first ones
abbrev pub invariant-loop-change : goal.invariant-loop-change
invariant-loop-change l =
    fold vacated l.holders (leavers (drop l.change-index l.batch)) ≡ fold vacated l.fn.holders (leavers l.batch)
