use Rattle.group_model.proofs.QueueLemmas.{Fits-granted_join, Fits-leave}
use Rattle.group_model.proofs.laws.granted_changes_fit.Goals as goal

pub returns-clause-joins : goal.returns-clause-joins
returns-clause-joins c depth holders queue m each fits = Fits-granted_join depth holders queue fits m each

pub returns-clause-leaves : goal.returns-clause-leaves
returns-clause-leaves c holders queue m fits member free = Fits-leave holders queue m fits free member
