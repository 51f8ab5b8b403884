use Rattle.std.proofs.Common.{◌≡◌, length, take}
use Rattle.sym_closure.specs.Firsts.{AreAmong}
use Rattle.sym_closure.specs.Private.Graphs.{AreReached, keys_at}
use Rattle.sym_closure.proofs.closures.add_held.Given as goal

-- the keys so far
abbrev pub invariant-loop-key : goal.invariant-loop-key
invariant-loop-key l = record {
  bound : l.reached.bound ≡ length l.graph.keys;
  among : AreAmong (keys_at l.graph.keys l.reached.order) l.have;
  held : AreReached l.graph (take l.key-index l.have) l.reached.order;
}
