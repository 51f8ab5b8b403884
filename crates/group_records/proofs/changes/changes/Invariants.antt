use Rattle.std.proofs.Common.{◌≡◌, ◌-◌, ◌++◌, length}
use Rattle.gd_wire.specs.Readings.{mapped}
use Rattle.group_records.specs.Readings.{change, many}
use Rattle.group_records.proofs.changes.changes.Given as goal

abbrev pub invariant-loop : goal.invariant-loop
invariant-loop l = record {
  same : mapped (λ rest. l.batch ++ rest) (many change (l.count - l.counter) l.text) ≡ many change l.count l.fn.text;
  long : length l.batch ≡ l.counter;
}
