use Rattle.server_steps.proofs.ServedLemmas.{reopening_served}
use Rattle.server_steps.proofs.laws.a_reopening_is_served.Goals as goal

pub returns : goal.returns
returns g c = reopening_served g.D.Disk g.G.Signer g.R.Draws
