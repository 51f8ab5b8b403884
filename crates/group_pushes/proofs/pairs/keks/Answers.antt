use Rattle.std.proofs.Common.{arith}
use Rattle.group_pushes.proofs.PairLemmas.{root_low}
use Rattle.group_pushes.proofs.pairs.keks.Goals as goal

pub value-old-requires : goal.value-old-requires
value-old-requires c = omega (arith, c.root_id-root.ensures, root_low c.args.tree.now.depth)

pub value_after-new-requires : goal.value_after-new-requires
value_after-new-requires c = omega (arith, c.root_id-root.ensures, root_low c.args.tree.now.depth)
