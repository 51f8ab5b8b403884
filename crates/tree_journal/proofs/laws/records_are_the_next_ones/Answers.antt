use Rattle.tree_journal.proofs.StandLemmas.{stand_read}
use Rattle.tree_journal.proofs.laws.records_are_the_next_ones.Goals as goal

pub returns : goal.returns
returns c = stand_read
