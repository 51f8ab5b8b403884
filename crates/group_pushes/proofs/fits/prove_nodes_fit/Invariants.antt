use Rattle.std.proofs.Common.{take}
use Rattle.std.specs.List.{All}
use Rattle.group_terms.specs.declared.values.Drawn.{Drawn}
use Rattle.push_msg.specs.Written.{KekFits}
use Rattle.group_pushes.proofs.fits.prove_nodes_fit.Given as goal

abbrev pub invariant-loop-node : goal.invariant-loop-node
invariant-loop-node l = All (λ (drawn : Drawn). KekFits drawn.value) (take l.node-index l.fn.nodes)
