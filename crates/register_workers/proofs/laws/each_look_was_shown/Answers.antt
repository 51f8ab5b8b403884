use Rattle.register_workers.proofs.LookLemmas.{were_shown}
use Rattle.register_workers.proofs.laws.each_look_was_shown.Goals as goal

pub returns : goal.returns
returns c = were_shown
