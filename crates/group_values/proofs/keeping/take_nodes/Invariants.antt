use Rattle.std.proofs.Common.{◌≡◌, drop, length}
use Rattle.group_values.proofs.KeepingLemmas.{taken}
use Rattle.group_values.proofs.keeping.take_nodes.Given as goal

-- what was taken in and what is left
abbrev pub invariant-loop-node : goal.invariant-loop-node
invariant-loop-node l = record { nodes : taken l.kept (drop l.node-index l.nodes) ≡ taken l.fn.kept l.nodes; long : length l.kept ≡ length l.fn.kept }
