use Rattle.tree_journal.proofs.FrontLemmas.{found_read}
use Rattle.tree_journal.proofs.laws.a_record_is_the_next_one.Goals as goal

pub returns : goal.returns
returns c = found_read
