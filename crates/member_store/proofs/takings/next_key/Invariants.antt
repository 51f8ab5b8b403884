use Rattle.std.proofs.Common.{◌≡◌}
use Rattle.std.specs.List.{find}
use Rattle.member_store.specs.Takings.{can_take, keys_given}
use Rattle.member_store.proofs.takings.next_key.Given as goal

abbrev pub invariant-loop-array : goal.invariant-loop-array
invariant-loop-array l =
    find (can_take l.path l.taken) (keys_given l.array-iterator) ≡ find (can_take l.path l.taken) (keys_given l.fn.arrays)
