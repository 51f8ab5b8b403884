use Rattle.pull_sessions.proofs.FitLemmas.{no_session}
use Rattle.pull_sessions.proofs.sas.Sas.take.Goals as goal

pub replace-requires : goal.replace-requires
replace-requires c = no_session
