use Rattle.group_model.proofs.FirstLemmas.{holders_at-take, last_change-take}
use Rattle.group_model.proofs.laws.first_epochs_stay.Goals as goal

pub returns-clause-holders : goal.returns-clause-holders
returns-clause-holders c = holders_at-take

pub returns-clause-last_changes : goal.returns-clause-last_changes
returns-clause-last_changes c = last_change-take
