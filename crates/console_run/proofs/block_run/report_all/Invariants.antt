use Rattle.std.proofs.Common.{take}
use Rattle.run_report.specs.Reports.{Puts}
use Rattle.script_text.specs.Report.{entries_text}
use Rattle.console_run.proofs.block_run.report_all.Given as goal

-- the entries that it went over were reported
abbrev pub invariant-loop-entry : goal.invariant-loop-entry
invariant-loop-entry g l = Puts (g.K.Sink.shows l.fn.out) (g.K.Sink.shows l.out) (entries_text (take l.entry-index l.entries))
