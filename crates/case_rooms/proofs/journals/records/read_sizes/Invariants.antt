use Rattle.std.proofs.Common.{◌-◌}
use Rattle.case_rooms.proofs.journals.records.read_sizes.Given as goal

-- no record begins past the farthest place of a disk, and each one moves the place on
abbrev pub decreases-loop-body : goal.decreases-loop-body
decreases-loop-body l = 4611686018427387904 - l.journal.at
