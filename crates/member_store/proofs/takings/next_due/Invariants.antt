use Rattle.std.proofs.Common.{◌≡◌, drop}
use Rattle.std.specs.List.{find}
use Rattle.member_store.specs.Takings.{can_take}
use Rattle.member_store.proofs.takings.next_due.Given as goal

abbrev pub invariant-loop-given : goal.invariant-loop-given
invariant-loop-given l = find (can_take l.path l.taken) (drop l.given-index l.due) ≡ find (can_take l.path l.taken) l.due
