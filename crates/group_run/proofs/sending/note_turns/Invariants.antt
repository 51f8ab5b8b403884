use Rattle.std.proofs.Common.{◌≤◌, ◌*◌, drop, take}
use Rattle.std.specs.Prelude.{All, count_by}
use Rattle.group_run.specs.Private.Noted.{AreNoted, WereSent}
use Rattle.group_run.specs.Private.Turned.{PushesFit, IsNoOpening, made_batch}
use Rattle.group_run.proofs.sending.note_turns.Given as goal

-- the pushes of the entries up to this place are noted, and there is room for those of the rest
abbrev pub invariant-loop-place : goal.invariant-loop-place
invariant-loop-place l = record {
  fits : All PushesFit (drop l.place l.entries);
  no_opening : All IsNoOpening (drop l.place l.entries);
  room : 2 * count_by made_batch (drop l.place l.entries) ≤ l.pushes.spare;
  noted : AreNoted l.fn.pushes.items (take l.first l.entries) → AreNoted l.pushes.items (take l.place l.entries);
  sent : WereSent l.fn.pushes.items (take l.first l.entries) → WereSent l.pushes.items (take l.place l.entries);
}
