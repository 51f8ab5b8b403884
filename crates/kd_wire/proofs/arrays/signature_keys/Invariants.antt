use Rattle.std.proofs.Common.{◌≡◌, ◌-◌}
use Rattle.kd_wire.specs.Arrays.{signature_keys_of, signature_keys}
use Rattle.kd_wire.proofs.arrays.signature_keys.Given as goal

abbrev pub invariant-loop : goal.invariant-loop
invariant-loop l = signature_keys_of (l.end - l.counter) l.text ≡ signature_keys l.fn.text
