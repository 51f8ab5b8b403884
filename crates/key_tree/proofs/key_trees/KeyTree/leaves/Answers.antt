use Rattle.std.proofs.Common.{arith}
use Rattle.std.proofs.Math.Pow.{pow_mono}
use Rattle.key_tree.proofs.key_trees.KeyTree.leaves.Goals as goal

pub returns-clause-few : goal.returns-clause-few
returns-clause-few c = omega (arith, pow_mono c.self.invariant.not_deep, c.self.invariant.leaves)
