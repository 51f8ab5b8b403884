use Rattle.std.proofs.Common.{◌+◌, map, take}
use Rattle.group_model.specs.Derivations.{pairs_sent}
use Rattle.sym_closure.specs.Firsts.{HasSame}
use Rattle.sym_closure.specs.Private.Graphs.{pairs_of, turned}
use Rattle.sym_closure.proofs.sent.Sent.take_in.Given as goal

-- the entries so far
abbrev pub invariant-loop-entry : goal.invariant-loop-entry
invariant-loop-entry l = HasSame (pairs_sent (take (l.fn.self.count + l.entry-index) l.fn.history))
    (map turned (pairs_of l.self-inside.graph))
