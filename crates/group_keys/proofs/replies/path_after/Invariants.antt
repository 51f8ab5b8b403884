use Rattle.group_keys.specs.Private.Present.{IsNextKey}
use Rattle.key_tree.proofs.PathLemmas.{IsOnTheWay}
use Rattle.group_keys.proofs.replies.path_after.Given as goal

abbrev pub invariant-loop : goal.invariant-loop
invariant-loop l = IsOnTheWay (IsNextKey l.tree l.marked l.values) l.tree.depth l.fn.leaf l.path l.counter l.id
