use Rattle.group_model.proofs.EpochLemmas.{length-holders_of}
use Rattle.group_model.proofs.laws.each_leaf_has_its_place.Goals as goal

pub returns : goal.returns
returns c depth batches = length-holders_of depth batches
