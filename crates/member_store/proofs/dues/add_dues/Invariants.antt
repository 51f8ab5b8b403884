use Rattle.std.proofs.Common.{◌≡◌, ◌++◌}
use Rattle.std.specs.List.{filter}
use Rattle.member_store.specs.Private.Dues.{is_due}
use Rattle.member_store.proofs.dues.add_dues.Given as goal

abbrev pub invariant-loop-given : goal.invariant-loop-given
invariant-loop-given l =
    l.due.items ++ filter (is_due l.path) l.given-iterator ≡ l.fn.due.items ++ filter (is_due l.path) l.fn.keys
