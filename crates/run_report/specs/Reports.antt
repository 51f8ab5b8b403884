-- What is put into a sink.
use Rattle.std.specs.Prelude.{◌≡◌, ◌⊎◌, ℕ, ◌<◌, List, [], ◌∷◌, ◌++◌, length, Option}
use Rattle.std.specs.Io.KnownBytes.{Appends}
use Rattle.group_terms.specs.Faults.{Rose}
use Rattle.gd_edges.specs.Shown.{Shown}
use Rattle.group_model.specs.declared.entries.Entry.{Entry}
use Rattle.script_text.specs.Report.{entries_text, entry_text, end_text}
use Rattle.script_text.specs.Summary.{summary_text}
use Rattle.run_report.specs.declared.endings.Ending.{Ending}
use Rattle.run_report.specs.declared.endings.Ending.TheVariants.{Whole, NoGroup, BadLine, Source, Sink, Memory, NotOpened}

-- no call failed, and where the sink exposes what was put, a text was put
pub record Puts (was now : Shown) (text : List ℕ) : Type 0 where
  pub appended : Appends was.octets now.octets text
  pub no_fault : now.faults ≡ was.faults

-- of a text a part from its start was put, perhaps nothing, and not all; where the sink exposes what was put, that is seen
pub record AppendsPart (was now : Option (List ℕ)) (text : List ℕ) : Type 0 where
  pub part : List ℕ
  pub missing : List ℕ
  pub parts : text ≡ part ++ missing
  pub some : 0 < length missing
  pub appended : Appends was now part

-- the status of an ending
abbrev pub status_of : Ending → ℕ
status_of Whole = 0
status_of NoGroup = 1
status_of (BadLine line) = 2
status_of Source = 3
status_of Sink = 4
status_of Memory = 5
status_of NotOpened = 6

-- the number of the faulty line at which a run ended, and 0 where it ended for another reason
abbrev pub line_at : Ending → ℕ
line_at Whole = 0
line_at NoGroup = 0
line_at (BadLine line) = line
line_at Source = 0
line_at Sink = 0
line_at Memory = 0
line_at NotOpened = 0

-- the line that ends a report
abbrev pub last_line : Ending → List ℕ
last_line ending = end_text (status_of ending) (line_at ending)

-- Where a report breaks off, it is because the sink failed, or out of memory for the text; then nothing of it was put. At
-- other endings no report breaks off.
abbrev pub BreaksOff : Ending → Shown → Shown → List ℕ → Type 0
BreaksOff Whole was now text = ⊥
BreaksOff NoGroup was now text = ⊥
BreaksOff (BadLine line) was now text = ⊥
BreaksOff Source was now text = ⊥
BreaksOff Sink was now text = Rose was.faults now.faults × AppendsPart was.octets now.octets text
BreaksOff Memory was now text = Puts was now []
BreaksOff NotOpened was now text = ⊥

-- The entries before the last one were reported, and the report of the last one broke off. Nothing was asked after it.
pub record ReportBreaksOff (ending : Ending) (was now : Shown) (entries : List Entry) : Type 0 where
  pub reported : List Entry
  pub last : Entry
  pub parts : entries ≡ reported ++ last ∷ []
  pub middle : Shown
  pub puts : Puts was middle (entries_text reported)
  pub breaks : BreaksOff ending middle now (entry_text last)

-- The last line of the ending that was due was put. Or it broke off: then the run ended as `Sink` or `Memory`, whatever ending was due.
abbrev pub LastLineEnds : Ending → Ending → Shown → Shown → Type 0
LastLineEnds due ending was now = ((due ≡ ending) × Puts was now (last_line ending)) ⊎ BreaksOff ending was now (last_line due)

-- The summary of a soak was put, and then the last line of the ending that was due; or the summary broke off.
abbrev pub SummaryEnds : ℕ → List Entry → Ending → Ending → Shown → Shown → Type 0
SummaryEnds number entries due ending was now =
    ((middle : Shown) × Puts was middle (summary_text number entries) × LastLineEnds due ending middle now)
    ⊎ BreaksOff ending was now (summary_text number entries)
