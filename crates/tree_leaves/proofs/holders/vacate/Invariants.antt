use Rattle.std.proofs.Common.{◌≡◌, ◌++◌, map, take, drop, cond, None}
use Rattle.tree_leaves.specs.Places.{is_held_by}
use Rattle.tree_leaves.proofs.holders.vacate.Given as goal

abbrev pub invariant-loop-holder : goal.invariant-loop-holder
invariant-loop-holder l =
    l.holders ≡ map (λ holder. cond (is_held_by l.member holder) None holder) (take l.holder-index l.fn.holders) ++ drop l.holder-index l.fn.holders
