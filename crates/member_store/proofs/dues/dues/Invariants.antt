use Rattle.std.proofs.Common.{◌≡◌, ◌++◌}
use Rattle.std.specs.List.{filter}
use Rattle.member_store.specs.Private.Dues.{is_due}
use Rattle.member_store.specs.Takings.{keys_given}
use Rattle.member_store.proofs.dues.dues.Given as goal

abbrev pub invariant-loop-array : goal.invariant-loop-array
invariant-loop-array l =
    l.due.items ++ filter (is_due l.path) (keys_given l.array-iterator) ≡ filter (is_due l.path) (keys_given l.fn.arrays)
