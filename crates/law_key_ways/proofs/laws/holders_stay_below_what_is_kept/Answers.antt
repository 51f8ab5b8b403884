use Rattle.law_key_ways.proofs.LeafLemmas.{kept_below}
use Rattle.law_key_ways.proofs.laws.holders_stay_below_what_is_kept.Goals as goal

pub returns : goal.returns
returns c depth epoch i v batches = kept_below c.laws_hold.ensures depth epoch batches v i
