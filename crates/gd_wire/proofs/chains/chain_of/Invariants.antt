use Rattle.gd_wire.proofs.ChainReadings.{Reaches}
use Rattle.gd_wire.proofs.chains.chain_of.Given as goal

abbrev pub invariant-loop-kind : goal.invariant-loop-kind
invariant-loop-kind l = Reaches l.first l.due l.initial.reader l.kind-index l.named l.reader l.before
