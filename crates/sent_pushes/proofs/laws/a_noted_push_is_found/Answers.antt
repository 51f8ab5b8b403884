use Rattle.sent_pushes.proofs.LawLemmas.{place_noted}
use Rattle.sent_pushes.proofs.laws.a_noted_push_is_found.Goals as goal

pub returns : goal.returns
returns c = place_noted
