use Rattle.tree_journal.proofs.StandLemmas.{breaks_further_on}
use Rattle.tree_journal.proofs.laws.a_journal_breaks_off_further_on.Goals as goal

pub returns : goal.returns
returns c = breaks_further_on
