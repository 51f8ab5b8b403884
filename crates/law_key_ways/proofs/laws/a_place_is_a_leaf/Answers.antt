use Rattle.law_key_ways.proofs.LeafLemmas.{place_is_leaf}
use Rattle.law_key_ways.proofs.laws.a_place_is_a_leaf.Goals as goal

pub returns : goal.returns
returns c depth epoch leaf batches m = place_is_leaf c.laws_hold.ensures depth epoch batches m leaf
