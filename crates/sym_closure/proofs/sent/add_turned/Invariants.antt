use Rattle.std.proofs.Common.{◌++◌, map, take}
use Rattle.sym_closure.specs.Firsts.{HasSame}
use Rattle.sym_closure.specs.Private.Graphs.{pairs_of, turned}
use Rattle.sym_closure.proofs.sent.add_turned.Given as goal

-- the pairs so far
abbrev pub invariant-loop-pair : goal.invariant-loop-pair
invariant-loop-pair l = HasSame (pairs_of l.fn.graph ++ take l.pair-index (map turned l.pairs)) (pairs_of l.graph)
