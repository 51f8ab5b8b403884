use Rattle.std.proofs.Common.{length}
use Rattle.group_steps.specs.Devices.{devices}
use Rattle.console_run.specs.Private.Runs.{Drawing}
use Rattle.console_run.proofs.DueLemmas.{IsGiving, left_after}
use Rattle.console_run.proofs.line_run.deliver_all.Given as goal

abbrev pub invariant-deliveries : goal.invariant-deliveries
invariant-deliveries g l = (peers : Drawing)
    → IsGiving (devices g.D.Disk g.G.Signer g.V.Verifier l.verifier) g.R.Draws peers l.last l.fn.group l.group (g.K.Sink.shows l.fn.out) (g.K.Sink.shows l.out)

abbrev pub decreases-deliveries : goal.decreases-deliveries
decreases-deliveries g l = left_after (length l.group.members.all) l.last
