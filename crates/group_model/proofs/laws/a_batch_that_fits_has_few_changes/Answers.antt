use Rattle.group_model.proofs.QueueLemmas.{Fits-none, leavers_few, changes_few}
use Rattle.group_model.proofs.laws.a_batch_that_fits_has_few_changes.Goals as goal

pub returns-clause-none : goal.returns-clause-none
returns-clause-none c = Fits-none

pub returns-clause-leavers : goal.returns-clause-leavers
returns-clause-leavers c = leavers_few

pub returns-clause-changes : goal.returns-clause-changes
returns-clause-changes c = changes_few
