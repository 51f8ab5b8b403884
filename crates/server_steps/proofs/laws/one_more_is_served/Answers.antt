use Rattle.server_steps.proofs.ServedLemmas.{since_more}
use Rattle.server_steps.proofs.laws.one_more_is_served.Goals as goal

pub returns : goal.returns
returns g c = since_more g.D.Disk g.G.Signer g.R.Draws
