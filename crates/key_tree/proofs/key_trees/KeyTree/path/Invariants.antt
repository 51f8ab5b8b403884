use Rattle.key_tree.specs.Present.{IsPresentKey}
use Rattle.key_tree.proofs.PathLemmas.{IsOnTheWay}
use Rattle.key_tree.proofs.key_trees.KeyTree.path.Given as goal

abbrev pub invariant-loop : goal.invariant-loop
invariant-loop l = IsOnTheWay (IsPresentKey l.self) l.self.depth l.fn.leaf l.path l.counter l.id
