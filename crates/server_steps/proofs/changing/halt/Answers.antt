use Rattle.server_steps.proofs.ChangeLemmas.{halts}
use Rattle.server_steps.proofs.changing.halt.Goals as goal

pub returns-clause-serves : goal.returns-clause-serves
returns-clause-serves g c = halts g.D.Disk g.G.Signer g.R.Draws c.args.core.now c.halt.new.self c.halt.ensures.rest c.halt.ensures.step
