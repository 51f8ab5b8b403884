use Rattle.std.proofs.Common.{[], take}
use Rattle.group_model.specs.Derivations.{pairs_sent}
use Rattle.sym_closure.specs.Private.Gains.{Gains}
use Rattle.sym_closure.proofs.histories.sent_pairs.Given as goal

-- the pairs so far
abbrev pub invariant-loop-entry : goal.invariant-loop-entry
invariant-loop-entry l = Gains [] (pairs_sent (take l.entry-index l.fn.history)) l.pairs
