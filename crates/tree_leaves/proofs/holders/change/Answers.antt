use Rattle.std.proofs.Common.{rules}
use Rattle.tree_leaves.specs.Places.{holders_after}
use Rattle.tree_leaves.proofs.holders.change.Goals as goal

pub returns : goal.returns
unfolding holders_after
returns c = search rules
