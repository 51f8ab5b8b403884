use Rattle.std.proofs.Common.{◌≡◌, ◌-◌, ◌++◌, length}
use Rattle.gd_wire.specs.Readings.{mapped}
use Rattle.group_records.specs.Readings.{node, many}
use Rattle.group_records.proofs.nodes.nodes.Given as goal

abbrev pub invariant-loop : goal.invariant-loop
invariant-loop l = record {
  same : mapped (λ rest. l.drawn ++ rest) (many node (l.count - l.counter) l.text) ≡ many node l.count l.fn.text;
  long : length l.drawn ≡ l.counter;
}
