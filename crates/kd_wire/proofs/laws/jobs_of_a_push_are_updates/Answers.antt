use Rattle.kd_wire.proofs.WrittenUpdates.{jobs_are_updates}
use Rattle.kd_wire.proofs.laws.jobs_of_a_push_are_updates.Goals as goal

pub returns : goal.returns
returns c = jobs_are_updates
