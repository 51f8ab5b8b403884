use Rattle.std.proofs.Common.{arith}
use Rattle.key_tree.proofs.PathLemmas.{all_keys, below_root, in_the_tree, one_step_up}
use Rattle.key_tree.proofs.key_trees.KeyTree.path.Goals as goal

pub key-requires : goal.key-requires
key-requires c = in_the_tree c.loop.invariant

pub above-id-requires : goal.above-id-requires
above-id-requires c = below_root c.loop.invariant (omega (arith, c.loop-test.true, c.depth-end.ensures.depth))

pub loop-preserved : goal.loop-preserved
loop-preserved c =
    one_step_up c.loop.invariant (omega (arith, c.loop-test.true, c.depth-end.ensures.depth)) c.key.result c.key.ensures.id c.key.ensures.key
    c.push.new.self c.push.ensures c.above-id.result c.above-id.ensures

pub returns-clause-keys : goal.returns-clause-keys
returns-clause-keys c = all_keys c.loop.invariant c.key-2.result c.key-2.ensures.key c.push-2.new.self c.push-2.ensures
