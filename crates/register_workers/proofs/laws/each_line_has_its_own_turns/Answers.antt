use Rattle.register_workers.proofs.EachLemmas.{have_own}
use Rattle.register_workers.proofs.laws.each_line_has_its_own_turns.Goals as goal

pub returns : goal.returns
returns c = have_own
