use Rattle.std.proofs.Common.{IsSome}
use Rattle.test_stores.proofs.stores.stored_on.Given as goal

-- the place of the clear commit mark is known
abbrev pub invariant-loop-count : goal.invariant-loop-count
invariant-loop-count l = IsSome l.store.end
