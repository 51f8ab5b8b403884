-- How the report of one entry breaks off.
use Rattle.std.specs.Prelude.{◌≡◌, true, List, ◌++◌}
use Rattle.gd_edges.specs.Shown.{Shown}
use Rattle.group_model.specs.Answers.{ran_out}
use Rattle.group_model.specs.declared.entries.Entry.{Entry}
use Rattle.script_text.specs.Report.{entry_text}
use Rattle.run_report.specs.declared.stops.Stop.{Stop}
use Rattle.run_report.specs.declared.stops.Stop.TheVariants.{Line, Source, Sink, Memory, Unreported}
use Rattle.run_report.specs.declared.endings.Ending.TheVariants.{Sink as SinkEnding, Memory as MemoryEnding}
use Rattle.run_report.specs.declared.endings.Ending.{Ending}
use Rattle.run_report.specs.Reports.{BreaksOff, Puts, ReportBreaksOff}

-- because the sink failed, or out of memory for it; or it was reported, and the request was out of memory
abbrev pub EntryStops : Stop → Shown → Shown → Entry → Type 0
EntryStops Line was now entry = ⊥
EntryStops Source was now entry = ⊥
EntryStops Sink was now entry = BreaksOff SinkEnding was now (entry_text entry)
EntryStops Memory was now entry = Puts was now (entry_text entry) × (ran_out entry.answer ≡ true)
EntryStops Unreported was now entry = BreaksOff MemoryEnding was now (entry_text entry)

-- entries were reported up to one in which the report broke off
pub record AreReportedUntil (ending : Ending) (was now : Shown) (entries : List Entry) : Type 0 where
  pub told : List Entry
  pub untold : List Entry
  pub parts : entries ≡ told ++ untold
  pub breaks : ReportBreaksOff ending was now told

-- because the sink failed, or out of memory for it
abbrev pub EntriesStop : Stop → Shown → Shown → List Entry → Type 0
EntriesStop Line was now entries = ⊥
EntriesStop Source was now entries = ⊥
EntriesStop Sink was now entries = AreReportedUntil SinkEnding was now entries
EntriesStop Memory was now entries = ⊥
EntriesStop Unreported was now entries = AreReportedUntil MemoryEnding was now entries
