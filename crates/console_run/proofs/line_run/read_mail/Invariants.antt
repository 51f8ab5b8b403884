use Rattle.group_run.specs.Reads.{left_to_read}
use Rattle.group_run.specs.Stays.{RulesStay}
use Rattle.group_steps.specs.Devices.{devices}
use Rattle.console_run.specs.Private.Runs.{Drawing}
use Rattle.console_run.proofs.MailLemmas.{IsReading}
use Rattle.console_run.proofs.line_run.read_mail.Given as goal

abbrev pub invariant-mail : goal.invariant-mail
invariant-mail g l = record {
  reading : (peers : Drawing) → IsReading (devices g.D.Disk g.G.Signer g.V.Verifier l.verifier) g.R.Draws peers l.fn.group l.group (g.K.Sink.shows l.fn.out)
      (g.K.Sink.shows l.out);
  stays : RulesStay l.fn.group l.group;
}

abbrev pub decreases-mail : goal.decreases-mail
decreases-mail g l = left_to_read l.group.members
