use Rattle.server_steps.proofs.ServedLemmas.{since_now}
use Rattle.server_steps.proofs.laws.nothing_was_served_yet.Goals as goal

pub returns : goal.returns
returns g c = since_now g.D.Disk g.G.Signer g.R.Draws
