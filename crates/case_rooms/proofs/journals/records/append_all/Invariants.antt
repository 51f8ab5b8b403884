use Rattle.std.proofs.Common.{IsSome}
use Rattle.case_rooms.proofs.journals.records.append_all.Given as goal

abbrev pub invariant-loop-number : goal.invariant-loop-number
invariant-loop-number g l = IsSome l.journal.end
