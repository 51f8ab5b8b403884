use Rattle.std.proofs.Common.{take}
use Rattle.std.specs.Prelude.{All, Contains}
use Rattle.sym_closure.specs.Firsts.{HasSame}
use Rattle.sym_closure.specs.Private.Graphs.{pairs_of}
use Rattle.sym_closure.proofs.graphs.KeyGraph.add_keys.Given as goal

-- the keys so far are there, and the pairs as before
abbrev pub invariant-loop-key : goal.invariant-loop-key
invariant-loop-key l = record {
  pairs : HasSame (pairs_of l.fn.self) (pairs_of l.self);
  there : All (Contains l.self.keys) (take l.key-index l.keys);
}
