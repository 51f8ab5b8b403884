use Rattle.sym_closure.proofs.MemberLemmas.{members_follow}
use Rattle.sym_closure.proofs.laws.members_derive.Goals as goal

pub returns : goal.returns
returns c = members_follow c.each_law_holds.ensures
