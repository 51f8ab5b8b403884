-- How a report breaks off, and how a run ends.
use Rattle.std.specs.Prelude.{◌≡◌, ◌⊎◌, ℕ, List, [], ◌∷◌, MatchResult, Result, if◌then◌else◌}
use Rattle.gd_edges.specs.Shown.{Shown}
use Rattle.group_model.specs.Answers.{ran_out}
use Rattle.group_model.specs.declared.entries.Answer.{Answer}
use Rattle.group_model.specs.declared.entries.Entry.{Entry}
use Rattle.script_text.specs.Report.{entry_text}
use Rattle.run_report.specs.declared.stops.Stop.{Stop}
use Rattle.run_report.specs.declared.stops.Stop.TheVariants.{Line, Source as SourceStop, Sink as SinkStop, Memory as MemoryStop, Unreported}
use Rattle.run_report.specs.declared.endings.Ending.{Ending}
use Rattle.run_report.specs.declared.endings.Ending.TheVariants.{Whole, BadLine, Source, Sink, Memory, NotOpened}
use Rattle.run_report.specs.Reports.{BreaksOff, LastLineEnds, Puts}

-- the report of a text broke off, because the sink failed, or out of memory for it
abbrev pub TextBreaksOff : Stop → Shown → Shown → List ℕ → Type 0
TextBreaksOff Line was now text = ⊥
TextBreaksOff SourceStop was now text = ⊥
TextBreaksOff SinkStop was now text = BreaksOff Sink was now text
TextBreaksOff MemoryStop was now text = ⊥
TextBreaksOff Unreported was now text = BreaksOff Memory was now text

-- ---- after a script

-- after a stop at this line: with the last line that is due, or, where the report broke off, with nothing more
abbrev pub StopEnds : Stop → ℕ → Ending → Shown → Shown → Type 0
StopEnds Line line ending was now = LastLineEnds (BadLine line) ending was now
StopEnds SourceStop line ending was now = LastLineEnds Source ending was now
StopEnds SinkStop line ending was now = (ending ≡ Sink) × (now ≡ was)
StopEnds MemoryStop line ending was now = LastLineEnds Memory ending was now
StopEnds Unreported line ending was now = (ending ≡ Memory) × (now ≡ was)

-- after a script that was followed to its end, or stopped
abbrev pub ScriptEnds : Result Unit Stop → ℕ → Ending → Shown → Shown → Type 0
ScriptEnds followed line ending was now =
    MatchResult followed (λ _. LastLineEnds Whole ending was now) (λ stop. StopEnds stop line ending was now)

-- ---- where no group was opened

-- the ending that is due where an opening was refused so
abbrev pub due_after : Answer → Ending
due_after answer = if ran_out answer then Memory else NotOpened

-- the refusal of an opening was reported, and then the last line that is due; or the report of it broke off
abbrev pub RefusalEnds : Entry → Ending → Shown → Shown → Type 0
RefusalEnds entry ending was now =
    ((middle : Shown) × Puts was middle (entry_text entry) × LastLineEnds (due_after entry.answer) ending middle now)
    ⊎ BreaksOff ending was now (entry_text entry)

-- where nothing was asked, memory ran out
abbrev pub UnopenedEnds : List Entry → Ending → Shown → Shown → Type 0
UnopenedEnds [] ending was now = LastLineEnds Memory ending was now
UnopenedEnds (entry ∷ later) ending was now = RefusalEnds entry ending was now
