use Rattle.std.proofs.Common.{◌≡◌, drop}
use Rattle.std.specs.List.{fold}
use Rattle.group_terms.specs.Changes.{joiners}
use Rattle.tree_leaves.specs.Places.{placed}
use Rattle.tree_leaves.proofs.holders.place_all.Given as goal

-- those that are left make of the holders what all make of the first ones
abbrev pub invariant-loop-change : goal.invariant-loop-change
invariant-loop-change l =
    fold placed l.holders (joiners (drop l.change-index l.batch)) ≡ fold placed l.fn.holders (joiners l.batch)
