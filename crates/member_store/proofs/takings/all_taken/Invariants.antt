use Rattle.kd_wire.specs.Spans.{span_arrays}
use Rattle.member_store.specs.Takings.{keys_given}
use Rattle.member_store.proofs.StepLemmas.{IsSoFar}
use Rattle.member_store.proofs.takings.all_taken.Given as goal

abbrev pub invariant-loop : goal.invariant-loop
invariant-loop l = IsSoFar l.path (keys_given (span_arrays l.span l.body)) l.taken.items l.index
