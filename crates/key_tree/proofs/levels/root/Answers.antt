use Rattle.std.proofs.Common.{arith}
use Rattle.std.proofs.lemmas.Grind.{pow_more}
use Rattle.key_tree.proofs.PathLemmas.{some_power}
use Rattle.key_tree.proofs.levels.root.Goals as goal

pub left_alone-requires-clause-within : goal.left_alone-requires-clause-within
left_alone-requires-clause-within c = omega (arith, pow_more 2 c.args.held.now.depth, some_power c.args.held.now.depth)
