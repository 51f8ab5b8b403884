use Rattle.std.proofs.Common.{◌≡◌, take}
use Rattle.sym_closure.specs.Private.Graphs.{keys_at}
use Rattle.sym_closure.proofs.graphs.KeyGraph.names.Given as goal

-- the names so far
abbrev pub invariant-loop-number : goal.invariant-loop-number
invariant-loop-number l = l.names ≡ keys_at l.keys (take l.number-index l.numbers)
