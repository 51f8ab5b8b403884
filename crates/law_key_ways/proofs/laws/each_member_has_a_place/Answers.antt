use Rattle.law_key_ways.proofs.LeafLemmas.{place_of}
use Rattle.law_key_ways.proofs.laws.each_member_has_a_place.Goals as goal

pub returns : goal.returns
returns c = place_of
