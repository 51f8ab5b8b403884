use Rattle.std.proofs.Common.{take}
use Rattle.std.specs.List.{All}
use Rattle.group_records.specs.Fits.{NodeFits}
use Rattle.group_records.proofs.fits.prove_nodes_fit.Given as goal

abbrev pub invariant-loop-node : goal.invariant-loop-node
invariant-loop-node l = All NodeFits (take l.node-index l.fn.nodes)
