use Rattle.std.proofs.Common.{◌≡◌, ◌++◌, take, drop}
use Rattle.pull_sessions.specs.Sessions.{sessions_ended}
use Rattle.pull_sessions.proofs.sas.end_all.Given as goal

abbrev pub invariant-loop-place : goal.invariant-loop-place
invariant-loop-place l = l.sas.items ≡ sessions_ended (take l.place l.fn.sas.items) ++ drop l.place l.fn.sas.items
