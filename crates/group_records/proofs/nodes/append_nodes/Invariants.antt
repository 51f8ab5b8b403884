use Rattle.std.proofs.Common.{◌≡◌, ◌+◌, ◌*◌, ◌++◌, drop, length}
use Rattle.group_records.specs.Texts.{nodes_text}
use Rattle.group_records.proofs.nodes.append_nodes.Given as goal

abbrev pub invariant-loop-node : goal.invariant-loop-node
invariant-loop-node l = record {
  octets : l.out ++ nodes_text (drop l.node-index l.nodes) ≡ l.fn.out ++ nodes_text l.nodes;
  long : length l.out ≡ length l.fn.out + 34 * l.node-index;
}
