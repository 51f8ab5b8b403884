use Rattle.std.proofs.Common.{◌≡◌, map}
use Rattle.std.specs.List.{range_with_len}
use Rattle.group_model.specs.LastChanges.{renewed_at}
use Rattle.group_model.proofs.trees.renew.Given as goal

abbrev pub invariant-loop-v : goal.invariant-loop-v
invariant-loop-v l = l.list ≡ map (renewed_at l.epoch l.made l.marks) (range_with_len 0 l.v)
