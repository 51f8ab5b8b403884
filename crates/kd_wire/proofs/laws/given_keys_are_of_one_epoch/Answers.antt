use Rattle.kd_wire.proofs.EpochLemmas.{are_given}
use Rattle.kd_wire.proofs.laws.given_keys_are_of_one_epoch.Goals as goal

pub returns : goal.returns
returns c = are_given
