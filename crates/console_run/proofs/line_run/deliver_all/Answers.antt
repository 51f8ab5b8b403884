use Rattle.std.proofs.Common.{◌<◌, sym, ap, ◌∙◌, rules}
use Rattle.script_text.specs.declared.lines.Line.TheVariants as lines
use Rattle.run_report.specs.declared.stops.Stop.TheVariants.{Memory}
use Rattle.group_steps.specs.Devices.{devices}
use Rattle.console_run.proofs.AskLemmas.{Stops-unbegun}
use Rattle.console_run.proofs.DueLemmas.{Ends-refused, all_given, fewer_due, given_next, giving_begins, no_draws, stopped_at_delivery, ungiven}
use Rattle.run_report.proofs.ErrorLemmas.{match_error}
use Rattle.console_run.proofs.line_run.deliver_all.Goals as goal

pub returns-in_err-refuse_deliveries-clause-runs : goal.returns-in_err-refuse_deliveries-clause-runs
returns-in_err-refuse_deliveries-clause-runs g c peers =
    match_error _ _ _ Memory c.from_residual.ensures.1
    (Stops-unbegun (devices g.D.Disk g.G.Signer g.V.Verifier c.args.verifier.now) g.R.Draws peers lines.DeliverAll c.args.group.now
    c.refuse_deliveries.new.self (g.K.Sink.shows c.args.out.now) (ap (λ held. held.server) c.in_err-refuse_deliveries.ensures.err)
    (ap (λ held. held.entries) c.in_err-refuse_deliveries.ensures.err))

pub returns-then-needs_reopen-clause-runs : goal.returns-then-needs_reopen-clause-runs
returns-then-needs_reopen-clause-runs g c peers =
    Ends-refused (devices g.D.Disk g.G.Signer g.V.Verifier c.args.verifier.now) g.R.Draws peers c.args.group.now c.refuse_deliveries.new.self
    (g.K.Sink.shows c.args.out.now) (g.K.Sink.shows c.report_last.new.out) c.requires (sym c.needs_reopen.ensures ∙ c.if-needs_reopen.true)
    c.in_ok-refuse_deliveries.ensures.ok c.report_last.result c.report_last.ensures.ok c.report_last.ensures.breaks

pub deliveries-init : goal.deliveries-init
deliveries-init g c peers =
    giving_begins (devices g.D.Disk g.G.Signer g.V.Verifier c.args.verifier.now) g.R.Draws peers c.args.group.now (g.K.Sink.shows c.args.out.now) c.requires
    (sym c.needs_reopen.ensures ∙ c.if-needs_reopen.false)

pub returns-in_err-deliver-clause-runs : goal.returns-in_err-deliver-clause-runs
returns-in_err-deliver-clause-runs g c peers =
    match_error _ _ _ Memory c.from_residual-in_err-deliver.ensures.1
    (ungiven (devices g.D.Disk g.G.Signer g.V.Verifier c.args.verifier.now) g.R.Draws peers c.deliveries.last c.args.group.now c.deliveries.group
    c.deliver.new.self (g.K.Sink.shows c.args.out.now) (g.K.Sink.shows c.deliveries.out) (g.K.Sink.shows c.deliveries.out) (c.deliveries.invariant peers)
    c.in_err-deliver.ensures.err)

pub returns-in_err-report_last-clause-runs : goal.returns-in_err-report_last-clause-runs
returns-in_err-report_last-clause-runs g c peers =
    match_error _ _ _ c.in_err-report_last.field-0.0 c.from_residual-in_err-report_last.ensures.1
    (stopped_at_delivery (devices g.D.Disk g.G.Signer g.V.Verifier c.args.verifier.now) g.R.Draws peers c.deliveries.last c.args.group.now
    c.deliveries.group c.deliver.new.self (g.K.Sink.shows c.args.out.now) (g.K.Sink.shows c.deliveries.out) (g.K.Sink.shows c.report_last-in-Some.new.out)
    (c.deliveries.invariant peers) c.in-Some.delivery c.in-Some.ensures c.in_ok-deliver.ensures.ok c.in_err-report_last.field-0.0
    c.in_err-report_last.ensures.breaks)

pub deliveries-preserved : goal.deliveries-preserved
deliveries-preserved g c peers =
    let number : c.in-Some.delivery.number < 4294967296 = search rules in
    given_next (devices g.D.Disk g.G.Signer g.V.Verifier c.args.verifier.now) g.R.Draws peers c.deliveries.last c.args.group.now c.deliveries.group
    c.deliver.new.self (g.K.Sink.shows c.args.out.now) (g.K.Sink.shows c.deliveries.out) (g.K.Sink.shows c.report_last-in-Some.new.out)
    (c.deliveries.invariant peers)
    c.in-Some.delivery c.in-Some.ensures c.in_ok-deliver.ensures.ok number c.in_ok-deliver.ensures.stays c.in_ok-report_last.ensures.ok

pub deliveries-smaller : goal.deliveries-smaller
deliveries-smaller g c =
    let number : c.in-Some.delivery.number < 4294967296 = search rules in
    let held = c.deliveries.group in
    fewer_due held.server.core.tree.holders held.members.all c.deliver.new.self.members.all held.entries c.deliveries.last c.in-Some.delivery
    (c.deliveries.invariant no_draws).small c.in-Some.ensures c.deliver.ensures.peers number

pub returns-clause-runs : goal.returns-clause-runs
returns-clause-runs g c peers =
    all_given (devices g.D.Disk g.G.Signer g.V.Verifier c.args.verifier.now) g.R.Draws peers c.deliveries.last c.args.group.now c.deliveries.group
    c.deliveries.group (g.K.Sink.shows c.args.out.now) (g.K.Sink.shows c.deliveries.out) (g.K.Sink.shows c.deliveries.out) (c.deliveries.invariant peers)
    c.in_default.ensures

pub returns-clause-stays : goal.returns-clause-stays
returns-clause-stays g c = (c.deliveries.invariant no_draws).stays

pub returns-clause-rest : goal.returns-clause-rest
returns-clause-rest g c = (c.deliveries.invariant no_draws).rest
