use Rattle.group_model.proofs.ReplyLemmas.{to_members}
use Rattle.group_model.proofs.laws.replies_go_to_members.Goals as goal

pub returns : goal.returns
returns c = to_members
