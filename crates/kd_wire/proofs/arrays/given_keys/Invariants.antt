use Rattle.std.proofs.Common.{◌≡◌, ◌-◌}
use Rattle.gd_wire.specs.Readings.{mapped}
use Rattle.kd_wire.specs.Keys.{given_keys}
use Rattle.kd_wire.specs.Private.Seen.{seen_after}
use Rattle.kd_wire.proofs.arrays.given_keys.Given as goal

abbrev pub invariant-loop : goal.invariant-loop
invariant-loop l =
    mapped (seen_after l.seen) (given_keys (l.count - l.counter) l.seen.handle l.text)
    ≡ mapped (seen_after l.fn.before) (given_keys l.count l.fn.before.handle l.fn.text)
