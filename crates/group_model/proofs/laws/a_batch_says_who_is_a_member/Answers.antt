use Rattle.group_model.proofs.JoinLemmas.{is_member-last}
use Rattle.group_model.proofs.laws.a_batch_says_who_is_a_member.Goals as goal

pub returns : goal.returns
returns c = is_member-last
