use Rattle.law_key_ways.proofs.StepLemmas.{all_go_up}
use Rattle.law_key_ways.proofs.laws.an_encryption_goes_one_step_up.Goals as goal

pub returns : goal.returns
returns c = all_go_up
