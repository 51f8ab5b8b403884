use Rattle.group_model.specs.Places.{holders_at}
use Rattle.group_model.proofs.PlaceLemmas.{one_leaf}
use Rattle.group_model.proofs.laws.members_never_share_a_leaf.Goals as goal

pub returns : goal.returns
returns c depth epoch leaf batches m n = one_leaf depth (holders_at depth batches epoch) m n leaf
