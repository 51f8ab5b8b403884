use Rattle.std.proofs.Common.{◌≡◌, ◌-◌, ◌++◌, length, None}
use Rattle.gd_wire.specs.Readings.{mapped}
use Rattle.kd_wire.specs.Keys.{path_keys}
use Rattle.kd_wire.proofs.keys.path_keys.Given as goal

abbrev pub invariant-loop-k : goal.invariant-loop-k
invariant-loop-k l = record {
  same : mapped (λ keys. l.path ++ keys) (path_keys (l.count - l.k) l.below l.text) ≡ path_keys l.count None l.fn.text;
  len : length l.path ≡ l.k;
}
