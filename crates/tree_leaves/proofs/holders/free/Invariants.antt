use Rattle.std.proofs.Common.{◌≡◌, ◌++◌, drop, map}
use Rattle.std.specs.Prelude.{is_none}
use Rattle.tree_leaves.proofs.holders.free.Given as goal

abbrev pub invariant-loop-holder : goal.invariant-loop-holder
invariant-loop-holder l = l.leaves ++ map is_none (drop l.holder-index l.holders) ≡ map is_none l.holders
