use Rattle.std.proofs.Common.{◌≡◌}
use Rattle.case_rooms.proofs.threads.rounds.work.Given as goal

abbrev pub invariant-loop-event : goal.invariant-loop-event
invariant-loop-event g l = l.pass.desk ≡ l.desk.id
