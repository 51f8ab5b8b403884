use Rattle.law_key_ways.proofs.GivenLemmas.{way_is_given}
use Rattle.law_key_ways.proofs.laws.who_stays_is_given_its_way.Goals as goal

pub returns : goal.returns
returns c depth epoch leaf steps batches m deep valid early place member up =
    way_is_given c.laws_hold.ensures depth epoch batches leaf steps m valid early place member up
