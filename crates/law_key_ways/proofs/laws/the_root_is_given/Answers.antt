use Rattle.law_key_ways.proofs.GivenLemmas.{root_is_given}
use Rattle.law_key_ways.proofs.laws.the_root_is_given.Goals as goal

pub returns : goal.returns
returns c = root_is_given c.laws_hold.ensures
