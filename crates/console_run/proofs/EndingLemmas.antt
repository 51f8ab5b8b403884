-- How a run ends.
use Rattle.std.proofs.Common.{◌≡◌, ◌⊎◌, ℕ, ◌+◌, false, List, [], ◌∷◌, sym, refl, ap, ◌∙◌, subst, inl, inr}
use Rattle.std.specs.Prelude.{Result, Ok, Err, IfErr, OnOk}
use Rattle.std.proofs.KnownBytes.{Consumes-nil}
use Rattle.std.proofs.lemmas.Bool.{false≢true}
use Rattle.gd_edges.specs.Shown.{Shown}
use Rattle.gd_edges.specs.declared.draws.Draws.{Ghosts as DrawGhosts}
use Rattle.group_model.specs.declared.entries.Answer.TheVariants.{Refused}
use Rattle.group_model.specs.declared.entries.Asked.{Asked}
use Rattle.group_model.specs.declared.entries.Entry.{Entry}
use Rattle.group_model.specs.declared.entries.Refusal.{Refusal}
use Rattle.group_model.specs.declared.entries.Refusal.TheVariants.{NoMemory}
use Rattle.group_run.specs.Views.{View}
use Rattle.group_steps.specs.Runs.{Run}
use Rattle.script_text.specs.Report.{entries_text, entry_text}
use Rattle.run_report.specs.declared.stops.Stop.{Stop}
use Rattle.run_report.specs.declared.stops.Stop.TheVariants.{Line, Source as SourceStop, Sink as SinkStop, Memory as MemoryStop, Unreported}
use Rattle.run_report.specs.declared.endings.Ending.{Ending}
use Rattle.run_report.specs.declared.endings.Ending.TheVariants.{Whole, BadLine, Source, Sink, Memory, NotOpened}
use Rattle.console_run.specs.Causes.{CannotOpen, CauseOf, Given, IsInParts, SourceAt}
use Rattle.group_steps.specs.Devices.{Devices, Keying}
use Rattle.console_run.specs.Lines.{IsOpeningEntry}
use Rattle.console_run.specs.Promises.{IsBroken, IsEnded, Streams, streams_of}
use Rattle.console_run.specs.Breaks.{LineBreaksOff}
use Rattle.console_run.proofs.AskLemmas.{line_breaks}
use Rattle.run_report.specs.Reports.{LastLineEnds, Puts}
use Rattle.console_run.specs.Private.Follows.{IsOpened, IsRunTo, IsRunUntil, RunsScript}
use Rattle.run_report.specs.Ends.{RefusalEnds, ScriptEnds, due_after}
use Rattle.console_run.specs.Private.Runs.{Drawing, IsBrokenOff, Moment, Start}
use Rattle.run_report.proofs.KnownLemmas.{Puts-entry, Puts-none, ReportBreaksOff-one}

module _ {D G V R : Type 0} (on : Devices D G V) (draws : DrawGhosts R) (workers : ℕ) (start : Start D G) (had left : Shown) (at : Moment D G R) (entries : List Entry)
    (same : entries ≡ at.held.entries) (disk : D) (kept : disk ≡ at.held.server.core.disk) where
  -- the ending that was due, and its last line
  ran_to : (due ending : Ending) (now : Shown) → IsRunTo on draws workers due start had left at → LastLineEnds due ending at.out now
      → RunsScript on start.by workers start.request start.run had left start.was now ending entries disk
  ran_to due ending now h last = record {
    given = h.given;
    came = h.came;
    after = h.reported.after;
    left_disk = h.reported.server.disk ∙ sym kept;
    run = inl (record {
      due = due;
      cause = subst (λ entries. CauseOf on start.by workers h.given start.request start.run due entries h.reported.after) (sym same) h.reported.cause;
      source = h.source;
      middle = at.out;
      report = subst (λ entries. Puts start.was at.out (entries_text entries)) (sym same) h.reported.report;
      last = last;
    });
  }

  -- a report that broke off
  broken : (ending : Ending) (given : Given) (h : IsBrokenOff on draws workers ending given start at) → left.faults ≡ had.faults
      → IsBroken on start.by workers (streams_of given had left start.was at.out) start.request start.run ending entries h.after
  broken ending given h stands = record {
    history = record { done = h.history.done; more = h.history.more; parts = same ∙ h.history.parts; up_to = h.history.up_to };
    source = stands;
    middle = h.middle;
    report = h.report;
    breaks = h.breaks;
  }

  ran_into_sink : IsRunUntil on draws workers SinkStop start had left at
      → RunsScript on start.by workers start.request start.run had left start.was at.out Sink entries disk
  ran_into_sink h = record {
    given = h.given;
    came = h.came;
    after = h.stopped.after;
    left_disk = h.stopped.server.disk ∙ sym kept;
    run = inr (broken Sink h.given h.stopped h.source);
  }

  ran_unreported : IsRunUntil on draws workers Unreported start had left at
      → RunsScript on start.by workers start.request start.run had left start.was at.out Memory entries disk
  ran_unreported h = record {
    given = h.given;
    came = h.came;
    after = h.stopped.after;
    left_disk = h.stopped.server.disk ∙ sym kept;
    run = inr (broken Memory h.given h.stopped h.source);
  }

module _ {D G V R : Type 0} (on : Devices D G V) (draws : DrawGhosts R) (workers : ℕ) (start : Start D G) (had left : Shown) (at : Moment D G R) where
  -- stops after which a last line is due
  due_at_line : (line : ℕ) → line ≡ at.count + 1 → IsRunUntil on draws workers Line start had left at → IsRunTo on draws workers (BadLine line) start had left at
  due_at_line line counted h = subst (λ number. IsRunTo on draws workers (BadLine number) start had left at) (sym counted)
      (record { given = h.given; came = h.came; source = h.source; reported = h.stopped })

  due_at_source : IsRunUntil on draws workers SourceStop start had left at → IsRunTo on draws workers Source start had left at
  due_at_source h = record { given = h.given; came = h.came; source = h.source; reported = h.stopped }

  due_at_memory : IsRunUntil on draws workers MemoryStop start had left at → IsRunTo on draws workers Memory start had left at
  due_at_memory h = record { given = h.given; came = h.came; source = h.source; reported = h.stopped }

-- ---- the ending of a script

module _ {D G V R : Type 0} (on : Devices D G V) (draws : DrawGhosts R) (workers : ℕ) (peers : Drawing) (held : View D G R) (had left was : Shown)
    (at : Moment D G R) where
  -- what following a script from this group says of its start
  abbrev pub Follows : (Start D G → Type 0) → Type 0
  Follows P = (start : Start D G) → start.was ≡ was → IsOpened on draws peers start held → P start

  -- a script was followed to its end, or stopped, and then its last line came
  module _ (start : Start D G) (same : start.was ≡ was) (opened : IsOpened on draws peers start held) (entries : List Entry)
      (kept_entries : entries ≡ at.held.entries)
      (disk : D) (kept_disk : disk ≡ at.held.server.core.disk) (line : ℕ) (counted : line ≡ at.count + 1) (ending : Ending) (now : Shown) where
    unchanged : (stopped : Ending) → (ending ≡ stopped) × (now ≡ at.out)
        → RunsScript on start.by workers start.request start.run had left start.was at.out stopped entries disk
        → RunsScript on start.by workers start.request start.run had left start.was now ending entries disk
    unchanged stopped ends h =
        subst (λ now. RunsScript on start.by workers start.request start.run had left start.was now ending entries disk) (sym ends.1)
        (subst (λ ending. RunsScript on start.by workers start.request start.run had left start.was at.out ending entries disk) (sym ends.0) h)

    ran_from_start : (followed : Result Unit Stop) → OnOk followed (Follows (λ start. IsRunTo on draws workers Whole start had left at))
        → IfErr followed (λ stop. Follows (λ start. IsRunUntil on draws workers stop start had left at)) → ScriptEnds followed line ending at.out now
        → RunsScript on start.by workers start.request start.run had left start.was now ending entries disk
    ran_from_start (Ok u) whole until ends =
        ran_to on draws workers start had left at entries kept_entries disk kept_disk Whole ending now (whole start same opened) ends
    ran_from_start (Err Line) whole until ends =
        ran_to on draws workers start had left at entries kept_entries disk kept_disk (BadLine line) ending now
        (due_at_line on draws workers start had left at line counted (until start same opened)) ends
    ran_from_start (Err SourceStop) whole until ends =
        ran_to on draws workers start had left at entries kept_entries disk kept_disk Source ending now
        (due_at_source on draws workers start had left at (until start same opened)) ends
    ran_from_start (Err SinkStop) whole until ends = unchanged Sink ends
        (ran_into_sink on draws workers start had left at entries kept_entries disk kept_disk (until start same opened))
    ran_from_start (Err MemoryStop) whole until ends =
        ran_to on draws workers start had left at entries kept_entries disk kept_disk Memory ending now
        (due_at_memory on draws workers start had left at (until start same opened)) ends
    ran_from_start (Err Unreported) whole until ends = unchanged Memory ends
        (ran_unreported on draws workers start had left at entries kept_entries disk kept_disk (until start same opened))

    pub ran_script : (followed : Result Unit Stop) → OnOk followed (Follows (λ start. IsRunTo on draws workers Whole start had left at))
        → IfErr followed (λ stop. Follows (λ start. IsRunUntil on draws workers stop start had left at)) → ScriptEnds followed line ending at.out now
        → RunsScript on start.by workers start.request start.run had left was now ending entries disk
    ran_script followed whole until ends =
        subst (λ was. RunsScript on start.by workers start.request start.run had left was now ending entries disk) same (ran_from_start followed whole until ends)

-- ---- where no group was opened

abbrev nothing : Given
nothing = record { taken = []; ended = false }

-- it ran out of memory, or cannot be opened
module _ {D G V : Type 0} (on : Devices D G V) (by : Keying G) (workers : ℕ) (request : Asked) (start : Run D) (had was now : Shown) (ending : Ending) (entries : List Entry)
    (after : Run D) (disk : D) (left : after.host.disk ≡ disk) where
  abbrev untouched : Streams
  untouched = streams_of nothing had had was now

  runs : IsEnded on by workers untouched request start ending entries after ⊎ IsBroken on by workers untouched request start ending entries after
      → RunsScript on by workers request start had had was now ending entries disk
  runs h = record {
    given = nothing;
    came = record { consumed = Consumes-nil had.octets; octets = refl; whole = λ ended. absurd (false≢true ended) };
    after = after;
    left_disk = left;
    run = h;
  }

  -- memory ran out before anything was asked
  pub ran_out_at_once : LastLineEnds Memory ending was now → entries ≡ [] → after ≡ start → RunsScript on by workers request start had had was now ending entries disk
  ran_out_at_once last none same = runs (inl (record {
    due = Memory;
    cause = inl (record { none_taken = refl; begins = inl (none, same) });
    source = refl;
    middle = was;
    report = subst (λ entries. Puts was was (entries_text entries)) (sym none) (Puts-none was);
    last = last;
  }))

  no_other : (why other : Refusal) → why ≡ NoMemory → Refused why ≡ Refused other → CannotOpen other → ⊥
  no_other why other memory same (inl fault) = cc
  no_other why other memory same (inr journal) = cc

  module _ (first : IsOpeningEntry on by request start entries after) where
    abbrev in_parts : IsInParts on by workers nothing request start entries after
    in_parts = record { done = []; more = entries; parts = refl; up_to = inl (record { none_taken = refl; nothing = refl; begins = inr first }) }

    ended : (due : Ending) (middle : Shown) → CauseOf on by workers nothing request start due entries after → had.faults ≡ had.faults
        → SourceAt due had.faults had.faults
        → Puts was middle (entry_text first.entry) → LastLineEnds due ending middle now → RunsScript on by workers request start had had was now ending entries disk
    ended due middle cause same source puts last = runs (inl (record {
      due = due;
      cause = cause;
      source = source;
      middle = middle;
      report = subst (λ entries. Puts was middle (entries_text entries)) (sym first.alone) (Puts-entry was middle first.entry puts);
      last = last;
    }))

    -- the refusal
    pub refused : (why : Refusal) → first.entry.answer ≡ Refused why → (why ≡ NoMemory) ⊎ CannotOpen why → RefusalEnds first.entry ending was now
        → RunsScript on by workers request start had had was now ending entries disk
    refused why is cause (inl ends) = elim cause [
      | inl memory ↦ ended Memory ends.0
          (inl (record { none_taken = refl; begins = inr (first, λ other refused. no_other why other memory (sym is ∙ refused)) })) refl refl ends.1
          (subst (λ due. LastLineEnds due ending ends.0 now) (ap due_after (is ∙ ap Refused memory)) ends.2)
      | inr cannot ↦ ended NotOpened ends.0 (record { none_taken = refl; first = first; why = why; refused = is; cause = cannot }) refl refl ends.1
          (subst (λ due. LastLineEnds due ending ends.0 now) (ap due_after is ∙ due_not_opened why cannot) ends.2)
    ]
      where
        due_not_opened : (why : Refusal) → CannotOpen why → due_after (Refused why) ≡ NotOpened
        due_not_opened why (inl fault) = ap (λ why. due_after (Refused why)) fault
        due_not_opened why (inr journal) = ap (λ why. due_after (Refused why)) journal.1
    refused why is cause (inr broke) = runs (inr (record {
      history = in_parts;
      source = refl;
      middle = was;
      report = Puts-none was;
      breaks = subst (LineBreaksOff ending was now) (sym first.alone)
          (line_breaks ending was now (first.entry ∷ []) (ReportBreaksOff-one ending was now first.entry broke));
    }))
