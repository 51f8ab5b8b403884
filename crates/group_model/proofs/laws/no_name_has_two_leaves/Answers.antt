use Rattle.group_model.proofs.OnceLemmas.{once_at}
use Rattle.group_model.proofs.laws.no_name_has_two_leaves.Goals as goal

pub returns : goal.returns
returns c = once_at
