use Rattle.std.proofs.Common.{◌≡◌}
use Rattle.std.specs.List.{find}
use Rattle.member_store.specs.Takings.{can_take}
use Rattle.member_store.proofs.takings.next_of.Given as goal

abbrev pub invariant-loop-given : goal.invariant-loop-given
invariant-loop-given l = find (can_take l.path l.taken) l.given-iterator ≡ find (can_take l.path l.taken) l.fn.keys
