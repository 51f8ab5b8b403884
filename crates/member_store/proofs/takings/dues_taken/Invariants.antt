use Rattle.member_store.proofs.StepLemmas.{IsSoFar}
use Rattle.member_store.proofs.takings.dues_taken.Given as goal

abbrev pub invariant-loop : goal.invariant-loop
invariant-loop l = IsSoFar l.path l.due l.taken.items l.index
