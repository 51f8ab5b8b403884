use Rattle.group_model.specs.Private.Trees.{StandsAt, HasShape}
use Rattle.group_model.proofs.history.History.tree.Given as goal

-- the tree is that of the epoch so far
abbrev pub invariant-loop-index : goal.invariant-loop-index
invariant-loop-index l = StandsAt l.fn.self.depth l.fn.self.batches l.index l.tree × HasShape l.fn.self.depth l.tree
