use Rattle.std.proofs.Common.{subst}
use Rattle.group_run.specs.Pulls.{Pulls}
use Rattle.script_text.specs.declared.lines.Line.TheVariants as lines
use Rattle.run_report.specs.declared.stops.Stop.TheVariants.{Memory}
use Rattle.group_steps.specs.Devices.{devices}
use Rattle.console_run.specs.Private.Runs.{drawn_by}
use Rattle.console_run.proofs.AskLemmas.{Stops-unbegun}
use Rattle.console_run.proofs.JoinLemmas.{pull_read, pull_stopped}
use Rattle.run_report.proofs.ErrorLemmas.{match_error}
use Rattle.console_run.proofs.line_run.run_pull.Goals as goal

pub returns-in_err-pull-clause-runs : goal.returns-in_err-pull-clause-runs
returns-in_err-pull-clause-runs g c =
    match_error _ _ _ Memory c.from_residual.ensures.1
    (Stops-unbegun (devices g.D.Disk g.G.Signer g.V.Verifier c.args.verifier.now) g.R.Draws (drawn_by g.P.Draws c.args.peers.now)
    (lines.Join c.args.member.now) c.args.group.now c.pull.new.self (g.K.Sink.shows c.args.out.now) c.in_err-pull.ensures.err.server
    c.in_err-pull.ensures.err.entries)

pub returns-in_err-report_last-clause-runs : goal.returns-in_err-report_last-clause-runs
returns-in_err-report_last-clause-runs g c =
    let on = devices g.D.Disk g.G.Signer g.V.Verifier c.args.verifier.now in
    let pulls = subst
    (λ name. Pulls g.D.Disk g.G.Signer g.R.Draws (g.P.Draws.block_at c.args.peers.now) name c.args.member.now c.args.group.now c.pull.new.self)
    c.console_name.ensures c.in_ok-pull.ensures.ok in
    match_error _ _ _ c.in_err-report_last.field-0.0 c.from_residual-in_err-report_last.ensures.1
    (pull_stopped on g.R.Draws (drawn_by g.P.Draws c.args.peers.now) c.args.member.now c.args.group.now c.pull.new.self (g.K.Sink.shows c.args.out.now)
    (g.K.Sink.shows c.report_last.new.out) c.requires.rest c.requires.introduced pulls c.in_err-report_last.field-0.0 c.in_err-report_last.ensures.breaks)

pub returns-clause-runs : goal.returns-clause-runs
returns-clause-runs g c =
    let on = devices g.D.Disk g.G.Signer g.V.Verifier c.args.verifier.now in
    let peers = drawn_by g.P.Draws c.args.peers.now in
    let pulls = subst
    (λ name. Pulls g.D.Disk g.G.Signer g.R.Draws (g.P.Draws.block_at c.args.peers.now) name c.args.member.now c.args.group.now c.pull.new.self)
    c.console_name.ensures c.in_ok-pull.ensures.ok in
    pull_read on g.R.Draws peers c.args.member.now c.args.group.now c.pull.new.self (g.K.Sink.shows c.args.out.now) (g.K.Sink.shows c.report_last.new.out)
    c.requires.rest c.requires.introduced pulls c.in_ok-report_last.ensures.ok c.read_mail.new.group (g.K.Sink.shows c.read_mail.new.out) c.read_mail.result
    c.read_mail.ensures.known (c.read_mail.ensures.runs peers)
