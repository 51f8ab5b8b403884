use Rattle.pull_sessions.proofs.FitLemmas.{that_session}
use Rattle.pull_sessions.proofs.sas.Sas.put.Goals as goal

pub replace-requires : goal.replace-requires
replace-requires c = that_session c.args.session c.requires
