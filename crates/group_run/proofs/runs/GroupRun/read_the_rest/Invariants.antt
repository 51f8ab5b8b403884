use Rattle.group_run.specs.Reads.{left_to_read}
use Rattle.group_run.proofs.RestLemmas.{IsGoing}
use Rattle.group_run.proofs.runs.GroupRun.read_the_rest.Given as goal

abbrev pub invariant-mail : goal.invariant-mail
invariant-mail g l = record { going : IsGoing g.D.Disk g.G.Signer g.R.Draws l.fn.self l.self }

abbrev pub decreases-mail : goal.decreases-mail
decreases-mail g l = left_to_read l.self.members
