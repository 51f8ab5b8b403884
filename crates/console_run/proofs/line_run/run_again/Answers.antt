use Rattle.script_text.specs.declared.lines.Line.TheVariants as lines
use Rattle.run_report.specs.declared.stops.Stop.TheVariants.{Memory}
use Rattle.group_steps.specs.Devices.{devices}
use Rattle.console_run.proofs.AskLemmas.{Stops-unbegun}
use Rattle.console_run.proofs.JoinLemmas.{again_read, again_stopped}
use Rattle.run_report.proofs.ErrorLemmas.{match_error}
use Rattle.console_run.proofs.line_run.run_again.Goals as goal

pub returns-in_err-again-clause-runs : goal.returns-in_err-again-clause-runs
returns-in_err-again-clause-runs g c peers =
    match_error _ _ _ Memory c.from_residual.ensures.1
    (Stops-unbegun (devices g.D.Disk g.G.Signer g.V.Verifier c.args.verifier.now) g.R.Draws peers (lines.Again c.args.member.now) c.args.group.now
    c.again.new.self
    (g.K.Sink.shows c.args.out.now) (λ i. (c.in_err-again.ensures.err i).server)
    (λ i. (c.in_err-again.ensures.err i).entries))

pub returns-in_err-report_last-clause-runs : goal.returns-in_err-report_last-clause-runs
returns-in_err-report_last-clause-runs g c peers =
    match_error _ _ _ c.in_err-report_last.field-0.0 c.from_residual-in_err-report_last.ensures.1
    (again_stopped (devices g.D.Disk g.G.Signer g.V.Verifier c.args.verifier.now) g.R.Draws peers c.args.group.now c.again.new.self c.requires c.args.member.now
    (g.K.Sink.shows c.args.out.now) (g.K.Sink.shows c.report_last.new.out) c.in_ok-again.ensures.ok c.in_err-report_last.field-0.0
    c.in_err-report_last.ensures.breaks)

pub returns-clause-runs : goal.returns-clause-runs
returns-clause-runs g c peers =
    again_read (devices g.D.Disk g.G.Signer g.V.Verifier c.args.verifier.now) g.R.Draws peers c.args.group.now c.again.new.self c.requires c.args.member.now
    (g.K.Sink.shows c.args.out.now) (g.K.Sink.shows c.report_last.new.out) c.in_ok-again.ensures.ok c.in_ok-report_last.ensures.ok c.read_mail.new.group
    (g.K.Sink.shows c.read_mail.new.out) c.read_mail.result c.read_mail.ensures.known (c.read_mail.ensures.runs peers)
