use Rattle.sym_closure.proofs.KnowledgeLemmas.{still_knows}
use Rattle.sym_closure.proofs.laws.what_is_known_stays_known.Goals as goal

pub returns : goal.returns
returns c = still_knows
