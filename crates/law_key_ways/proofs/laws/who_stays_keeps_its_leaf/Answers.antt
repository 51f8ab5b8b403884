use Rattle.law_key_ways.proofs.LeafLemmas.{leaf_is_kept, place_stays}
use Rattle.law_key_ways.proofs.laws.who_stays_keeps_its_leaf.Goals as goal

pub returns : goal.returns
returns c depth epoch leaf batches m deep valid early place member = (
  place_stays c.laws_hold.ensures depth epoch batches valid early m member leaf place,
  leaf_is_kept c.laws_hold.ensures depth epoch batches valid early m member leaf place deep,
)
