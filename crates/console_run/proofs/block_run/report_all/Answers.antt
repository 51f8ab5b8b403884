use Rattle.run_report.proofs.ErrorLemmas.{if_error}
use Rattle.console_run.proofs.BlockRunLemmas.{entries_stop}
use Rattle.console_run.proofs.block_run.report_all.Goals as goal

pub returns-in_err-report-clause-stops : goal.returns-in_err-report-clause-stops
returns-in_err-report-clause-stops g c =
    let seen = g.K.Sink.shows in
    if_error _ _ _ c.from_residual.ensures.1
    (entries_stop c.args.entries.now c.loop-entry.entry-index c.entry-item.result (seen c.args.out.now) (seen c.loop-entry.out) (seen c.report.new.out)
    c.in_err-report.field-0.0 c.loop-entry-test.true c.entry-item.is c.loop-entry.invariant c.in_err-report.ensures.breaks)
