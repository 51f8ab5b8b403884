use Rattle.std.proofs.Common.{arith}
use Rattle.key_tree.proofs.PathLemmas.{all_keys, below_root, in_the_tree, one_step_up}
use Rattle.group_keys.proofs.replies.path_after.Goals as goal

pub next_key-requires-clause-within : goal.next_key-requires-clause-within
next_key-requires-clause-within c = in_the_tree c.loop.invariant

pub above-id-requires : goal.above-id-requires
above-id-requires c = below_root c.loop.invariant (omega (arith, c.loop-test.true, c.depth-end.ensures.depth))

pub loop-preserved : goal.loop-preserved
loop-preserved c =
    one_step_up c.loop.invariant (omega (arith, c.loop-test.true, c.depth-end.ensures.depth)) c.next_key.result c.next_key.ensures.id c.next_key.ensures.key
    c.push.new.self c.push.ensures c.above-id.result c.above-id.ensures

pub returns-clause-keys : goal.returns-clause-keys
returns-clause-keys c = all_keys c.loop.invariant c.next_key-2.result c.next_key-2.ensures.key c.push-2.new.self c.push-2.ensures
