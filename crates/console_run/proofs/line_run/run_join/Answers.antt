use Rattle.std.proofs.Common.{sym, subst, ◌∙◌}
use Rattle.group_run.specs.Pulls.{Pulls}
use Rattle.script_text.specs.declared.lines.Line.TheVariants as lines
use Rattle.run_report.specs.declared.stops.Stop.TheVariants.{Memory}
use Rattle.group_steps.specs.Devices.{devices}
use Rattle.console_run.specs.Private.Runs.{drawn_by}
use Rattle.console_run.proofs.AskLemmas.{Stops-unbegun}
use Rattle.console_run.proofs.JoinLemmas.{introduce_stopped, introduced_only, then_read, then_stopped, unpulled}
use Rattle.run_report.proofs.ErrorLemmas.{match_error}
use Rattle.console_run.proofs.line_run.run_join.Goals as goal

pub returns-in_err-introduce-clause-runs : goal.returns-in_err-introduce-clause-runs
returns-in_err-introduce-clause-runs g c =
    match_error _ _ _ Memory c.from_residual.ensures.1
    (Stops-unbegun (devices g.D.Disk g.G.Signer g.V.Verifier c.args.verifier.now) g.R.Draws (drawn_by g.P.Draws c.args.peers.now)
    (lines.Join c.args.member.now) c.args.group.now c.introduce.new.self (g.K.Sink.shows c.args.out.now) (λ i. (c.in_err-introduce.ensures.err i).server)
    (λ i. (c.in_err-introduce.ensures.err i).entries))

pub returns-in_err-report_last-clause-runs : goal.returns-in_err-report_last-clause-runs
returns-in_err-report_last-clause-runs g c =
    match_error _ _ _ c.in_err-report_last.field-0.0 c.from_residual-in_err-report_last.ensures.1
    (introduce_stopped (devices g.D.Disk g.G.Signer g.V.Verifier c.args.verifier.now) g.R.Draws (drawn_by g.P.Draws c.args.peers.now) c.args.member.now
    c.args.group.now c.introduce.new.self (g.K.Sink.shows c.args.out.now) (g.K.Sink.shows c.report_last.new.out) c.requires.rest
    (sym c.was_introduced.ensures ∙ c.if-was_introduced.false) c.in_ok-introduce.ensures.ok c.in_err-report_last.field-0.0 c.in_err-report_last.ensures.breaks)

pub returns-then-not-was_introduced-clause-runs : goal.returns-then-not-was_introduced-clause-runs
returns-then-not-was_introduced-clause-runs g c =
    introduced_only (devices g.D.Disk g.G.Signer g.V.Verifier c.args.verifier.now) g.R.Draws (drawn_by g.P.Draws c.args.peers.now) c.args.member.now
    c.args.group.now c.introduce.new.self (g.K.Sink.shows c.args.out.now) (g.K.Sink.shows c.report_last.new.out) c.requires.rest
    (sym c.was_introduced.ensures ∙ c.if-was_introduced.false) c.in_ok-introduce.ensures.ok c.in_ok-report_last.ensures.ok
    (sym c.was_introduced-2.ensures ∙ c.if-not-was_introduced.true)

pub returns-in_err-pull-clause-runs : goal.returns-in_err-pull-clause-runs
returns-in_err-pull-clause-runs g c =
    match_error _ _ _ Memory c.from_residual-in_err-pull.ensures.1
    (unpulled (devices g.D.Disk g.G.Signer g.V.Verifier c.args.verifier.now) g.R.Draws (drawn_by g.P.Draws c.args.peers.now) c.args.member.now
    c.args.group.now c.introduce.new.self (g.K.Sink.shows c.args.out.now) (g.K.Sink.shows c.report_last.new.out) c.requires.rest
    (sym c.was_introduced.ensures ∙ c.if-was_introduced.false) c.in_ok-introduce.ensures.ok c.in_ok-report_last.ensures.ok c.pull.new.self
    c.in_err-pull.ensures.err.server c.in_err-pull.ensures.err.entries)

pub returns-in_err-report_last-2-clause-runs : goal.returns-in_err-report_last-2-clause-runs
returns-in_err-report_last-2-clause-runs g c =
    let on = devices g.D.Disk g.G.Signer g.V.Verifier c.args.verifier.now in
    let pulls = subst
    (λ name. Pulls g.D.Disk g.G.Signer g.R.Draws (g.P.Draws.block_at c.args.peers.now) name c.args.member.now c.introduce.new.self c.pull.new.self)
    c.console_name.ensures
    (subst
    (λ block. Pulls g.D.Disk g.G.Signer g.R.Draws block c.console_name.result c.args.member.now c.introduce.new.self c.pull.new.self)
    (λ i k. c.in_ok-introduce.ensures.blocks k i) c.in_ok-pull.ensures.ok) in
    match_error _ _ _ c.in_err-report_last-2.field-0.0 c.from_residual-in_err-report_last-2.ensures.1
    (then_stopped on g.R.Draws (drawn_by g.P.Draws c.args.peers.now) c.args.member.now c.args.group.now c.introduce.new.self (g.K.Sink.shows c.args.out.now)
    (g.K.Sink.shows c.report_last.new.out) c.requires.rest (sym c.was_introduced.ensures ∙ c.if-was_introduced.false) c.in_ok-introduce.ensures.ok
    c.in_ok-report_last.ensures.ok (sym c.was_introduced-2.ensures ∙ c.if-not-was_introduced.false) c.pull.new.self
    (g.K.Sink.shows c.report_last-2.new.out) pulls c.in_err-report_last-2.field-0.0 c.in_err-report_last-2.ensures.breaks)

pub returns-clause-runs : goal.returns-clause-runs
returns-clause-runs g c =
    let on = devices g.D.Disk g.G.Signer g.V.Verifier c.args.verifier.now in
    let peers = drawn_by g.P.Draws c.args.peers.now in
    let pulls = subst
    (λ name. Pulls g.D.Disk g.G.Signer g.R.Draws (g.P.Draws.block_at c.args.peers.now) name c.args.member.now c.introduce.new.self c.pull.new.self)
    c.console_name.ensures
    (subst
    (λ block. Pulls g.D.Disk g.G.Signer g.R.Draws block c.console_name.result c.args.member.now c.introduce.new.self c.pull.new.self)
    (λ i k. c.in_ok-introduce.ensures.blocks k i) c.in_ok-pull.ensures.ok) in
    then_read on g.R.Draws peers c.args.member.now c.args.group.now c.introduce.new.self (g.K.Sink.shows c.args.out.now)
    (g.K.Sink.shows c.report_last.new.out) c.requires.rest (sym c.was_introduced.ensures ∙ c.if-was_introduced.false) c.in_ok-introduce.ensures.ok
    c.in_ok-report_last.ensures.ok (sym c.was_introduced-2.ensures ∙ c.if-not-was_introduced.false) c.pull.new.self
    (g.K.Sink.shows c.report_last-2.new.out) pulls c.in_ok-report_last-2.ensures.ok c.read_mail.new.group (g.K.Sink.shows c.read_mail.new.out)
    c.read_mail.result c.read_mail.ensures.known (c.read_mail.ensures.runs peers)
