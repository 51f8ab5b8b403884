use Rattle.std.proofs.Common.{◌≡◌, Err, false, ap, ◌∙◌}
use Rattle.group_model.specs.Answers.{ran_out}
use Rattle.script_text.specs.Report.{entry_text}
use Rattle.run_report.specs.Reports.{Puts}
use Rattle.console_run.specs.Private.Reports.{EntryStops}
use Rattle.std.proofs.lemmas.Result.{on_ok_weaker}
use Rattle.run_report.specs.declared.stops.Stop.TheVariants.{Memory}
use Rattle.console_run.specs.Private.Follows.{at}
use Rattle.console_run.specs.Private.Runs.{drawn_by}
use Rattle.group_steps.specs.Devices.{devices}
use Rattle.run_report.proofs.ErrorLemmas.{at_error, if_error}
use Rattle.console_run.proofs.FollowLemmas.{of_held, run_whole, run_stopped_at_opening, run_out_of_memory, run_stopped, run_stopped_at_end}
use Rattle.console_run.proofs.StopLemmas.{SourceFails-other}
use Rattle.console_run.proofs.script_run.ScriptRun.follow.Goals as goal

pub returns-in_err-report_last-clause-stops : goal.returns-in_err-report_last-clause-stops
returns-in_err-report_last-clause-stops g c =
    let on = devices g.D.Disk g.G.Signer g.V.Verifier c.args.tools.now.verifier.now in
    let was = c.args.self.now in
    let seen = g.K.Sink.shows in
    if_error _ _ _ c.from_residual.ensures.1
    (λ start same opened.
    run_stopped_at_opening on g.R.Draws c.args.tools.now.workers start was.group was.block was.line.items was.count (seen c.args.out.now)
    (seen c.report_last.new.out) (drawn_by g.P.Draws c.args.peers.now) same opened c.requires.state c.requires.line c.requires.count
    (g.S.Source.shows c.args.script.now) c.in_err-report_last.field-0.0 (of_held c.get.result.now was.group (EntryStops c.in_err-report_last.field-0.0 (seen c.args.out.now) (seen c.report_last.new.out)) c.get.ensures
    c.in_err-report_last.ensures.breaks))

pub returns-in_err-buffer-clause-stops : goal.returns-in_err-buffer-clause-stops
returns-in_err-buffer-clause-stops g c =
    let on = devices g.D.Disk g.G.Signer g.V.Verifier c.args.tools.now.verifier.now in
    let was = c.args.self.now in
    let seen = g.K.Sink.shows in
    if_error _ _ Memory c.from_residual-in_err-buffer.ensures.1
    (λ start same opened.
    run_out_of_memory on g.R.Draws c.args.tools.now.workers start was.group was.block was.line.items was.count (seen c.args.out.now)
    (seen c.report_last.new.out) (drawn_by g.P.Draws c.args.peers.now) same opened c.requires.state c.requires.line c.requires.count
    (of_held c.get.result.now was.group (λ entry. Puts (seen c.args.out.now) (seen c.report_last.new.out) (entry_text entry) × (ran_out entry.answer ≡ false))
    c.get.ensures c.in_ok-report_last.ensures.ok)
    (g.S.Source.shows c.args.script.now))

pub returns-in_err-take_script-clause-stops : goal.returns-in_err-take_script-clause-stops
returns-in_err-take_script-clause-stops g c =
    let on = devices g.D.Disk g.G.Signer g.V.Verifier c.args.tools.now.verifier.now in
    let was = c.args.self.now in
    let left = g.S.Source.shows in
    let seen = g.K.Sink.shows in
    if_error _ _ _ c.from_residual-in_err-take_script.ensures.1
    (λ start same opened.
    run_stopped on g.R.Draws c.args.tools.now.workers start was.group was.block was.line.items was.count (seen c.args.out.now)
    (seen c.report_last.new.out) (drawn_by g.P.Draws c.args.peers.now) same opened c.requires.state c.requires.line c.requires.count
    (of_held c.get.result.now was.group (λ entry. Puts (seen c.args.out.now) (seen c.report_last.new.out) (entry_text entry) × (ran_out entry.answer ≡ false))
    c.get.ensures c.in_ok-report_last.ensures.ok)
    (left c.args.script.now) (left c.take_script.new.script) c.in_err-take_script.field-0.0
    (at c.take_script.new.self (seen c.take_script.new.out) (drawn_by g.P.Draws c.take_script.new.peers)) c.in_err-take_script.ensures.stops)

pub returns-clause-stops : goal.returns-clause-stops
returns-clause-stops g c =
    let on = devices g.D.Disk g.G.Signer g.V.Verifier c.args.tools.now.verifier.now in
    let was = c.args.self.now in
    let left = g.S.Source.shows in
    let seen = g.K.Sink.shows in
    at_error _ _ c.finish.result
    (λ stop failed stops start same opened.
    run_stopped_at_end on g.R.Draws c.args.tools.now.workers start was.group was.block was.line.items was.count (seen c.args.out.now)
    (seen c.report_last.new.out) (drawn_by g.P.Draws c.args.peers.now) same opened c.requires.state c.requires.line c.requires.count
    (of_held c.get.result.now was.group (λ entry. Puts (seen c.args.out.now) (seen c.report_last.new.out) (entry_text entry) × (ran_out entry.answer ≡ false))
    c.get.ensures c.in_ok-report_last.ensures.ok)
    (left c.args.script.now) (left c.take_script.new.script) (at c.take_script.new.self (seen c.take_script.new.out)
    (drawn_by g.P.Draws c.take_script.new.peers)) c.in_ok-take_script.ensures.goes stop
    (at c.finish.new.self (seen c.finish.new.out) (drawn_by g.P.Draws c.finish.new.peers))
    (SourceFails-other stop _ _ (λ source. c.finish.ensures.other (failed ∙ ap Err source)) c.in_ok-take_script.ensures.goes.no_fault) stops)
    c.finish.ensures.stops

pub returns-clause-ok : goal.returns-clause-ok
returns-clause-ok g c =
    let on = devices g.D.Disk g.G.Signer g.V.Verifier c.args.tools.now.verifier.now in
    let was = c.args.self.now in
    let left = g.S.Source.shows in
    let seen = g.K.Sink.shows in
    on_ok_weaker c.finish.result
    (λ ends start same opened.
    run_whole on g.R.Draws c.args.tools.now.workers start was.group was.block was.line.items was.count (seen c.args.out.now)
    (seen c.report_last.new.out) (drawn_by g.P.Draws c.args.peers.now) same opened c.requires.state c.requires.line c.requires.count
    (of_held c.get.result.now was.group (λ entry. Puts (seen c.args.out.now) (seen c.report_last.new.out) (entry_text entry) × (ran_out entry.answer ≡ false))
    c.get.ensures c.in_ok-report_last.ensures.ok)
    (left c.args.script.now) (left c.take_script.new.script) (at c.take_script.new.self (seen c.take_script.new.out)
    (drawn_by g.P.Draws c.take_script.new.peers)) c.in_ok-take_script.ensures.goes
    (at c.finish.new.self (seen c.finish.new.out) (drawn_by g.P.Draws c.finish.new.peers)) ends)
    c.finish.ensures.ends
