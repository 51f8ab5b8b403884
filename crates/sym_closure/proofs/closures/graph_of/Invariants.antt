use Rattle.std.proofs.Common.{take}
use Rattle.sym_closure.specs.Firsts.{HasSame}
use Rattle.sym_closure.specs.Private.Graphs.{pairs_of}
use Rattle.sym_closure.proofs.closures.graph_of.Given as goal

-- the pairs so far
abbrev pub invariant-loop-pair : goal.invariant-loop-pair
invariant-loop-pair l = HasSame (take l.pair-index l.pairs) (pairs_of l.graph)
