use Rattle.std.proofs.Common.{◌-◌}
use Rattle.case_rooms.proofs.journals.groups.read_batches.Given as goal

-- no record begins past the farthest place of a disk, and each one moves the place on
abbrev pub decreases-loop-replay : goal.decreases-loop-replay
decreases-loop-replay g l = 4611686018427387904 - l.store.at
