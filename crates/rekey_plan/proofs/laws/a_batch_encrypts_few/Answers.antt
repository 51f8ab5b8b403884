use Rattle.rekey_plan.proofs.WrapCountLemmas.{removals_wrap_twice, wraps_are_few}
use Rattle.rekey_plan.proofs.laws.a_batch_encrypts_few.Goals as goal

pub returns-clause-few : goal.returns-clause-few
returns-clause-few c = wraps_are_few

pub returns-clause-removal : goal.returns-clause-removal
returns-clause-removal c = removals_wrap_twice c.a_mark_is_that_of_a_child.ensures.child
