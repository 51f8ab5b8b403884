use Rattle.std.proofs.Common.{◌≡◌, ◌+◌, ◌-◌}
use Rattle.gd_wire.specs.Readings.{mapped}
use Rattle.kd_wire.specs.Arrays.{more_updates}
use Rattle.kd_wire.specs.Private.Seen.{found_after}
use Rattle.kd_wire.proofs.arrays.more_updates.Given as goal

abbrev pub invariant-loop : goal.invariant-loop
invariant-loop l = record {
  same : mapped (found_after l.found) (more_updates (l.most - l.counter) l.handle l.text)
      ≡ mapped (found_after l.fn.before) (more_updates l.most l.fn.handle l.fn.text);
  arrays : l.found.arrays ≡ l.fn.before.arrays + l.counter;
}
