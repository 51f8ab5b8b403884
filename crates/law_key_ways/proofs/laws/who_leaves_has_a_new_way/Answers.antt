use Rattle.law_key_ways.proofs.LeafLemmas.{way_is_new}
use Rattle.law_key_ways.proofs.laws.who_leaves_has_a_new_way.Goals as goal

pub returns : goal.returns
returns c depth epoch leaf steps batches m = way_is_new c.laws_hold.ensures depth epoch batches leaf steps m
