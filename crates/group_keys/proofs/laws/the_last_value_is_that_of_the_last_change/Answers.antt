use Rattle.std.proofs.Common.{[]}
use Rattle.group_keys.proofs.LastLemmas.{all_last, none_in_use}
use Rattle.group_keys.proofs.laws.the_last_value_is_that_of_the_last_change.Goals as goal

pub returns : goal.returns
returns c depth list v drawn = all_last c.each_leaf_has_its_place.ensures c.first_epochs_stay.ensures.last_changes depth list [] (none_in_use depth) drawn v
