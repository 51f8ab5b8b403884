-- Where and why a run stops.
-- `IsStoppedAt stop` computes to the final form of each way in which a run stops, so nothing is translated from level to level.
use Rattle.std.proofs.Common.{◌≡◌, ℕ, ◌+◌, ◌<◌, ◌≤◌, Bool, true, false, List, [], ◌∷◌, ◌++◌, length, take, drop, get_or, sym, refl, ap, ◌∙◌, subst}
use Rattle.std.proofs.Common.{arith, append_assoc, inl, inr, Option, None, Some}
use Rattle.std.specs.Prelude.{nat_lt}
use Rattle.std.proofs.lemmas.Bool.{and_parts, false≢true}
use Rattle.std.proofs.lemmas.List.{append-nil, take_more, take-append-drop, length-drop}
use Rattle.std.proofs.lemmas.List.Folds.{list_all-append}
use Rattle.gd_edges.specs.Shown.{Shown}
use Rattle.gd_edges.specs.declared.draws.Draws.{Ghosts as DrawGhosts}
use Rattle.group_model.specs.Answers.{is_open}
use Rattle.group_model.specs.declared.entries.Entry.{Entry}
use Rattle.group_run.specs.Views.{View}
use Rattle.group_steps.specs.Runs.{Run}
use Rattle.server_steps.specs.Reflects.{IsServerOf}
use Rattle.script_text.specs.Report.{entry_text, entries_text}
use Rattle.run_report.specs.declared.stops.Stop.{Stop}
use Rattle.run_report.specs.declared.stops.Stop.TheVariants.{Line, Source as SourceStop, Sink as SinkStop, Memory as MemoryStop, Unreported}
use Rattle.run_report.specs.declared.endings.Ending.{Ending}
use Rattle.run_report.specs.declared.endings.Ending.TheVariants.{Whole, BadLine, Source, Sink, Memory}
use Rattle.group_steps.specs.Devices.{Devices, Keying}
use Rattle.script_text.specs.declared.lines.Line.{Line as ScriptLine}
use Rattle.script_text.specs.declared.lines.Line.TheVariants.{End}
use Rattle.console_run.specs.Blocks.{BlockSoFar, after_text}
use Rattle.console_run.specs.Breaks.{LineBreaksOff}
use Rattle.console_run.specs.Scripts.{are_octets, most_lines, script_lines}
use Rattle.console_run.specs.Lines.{BeginsAt, IsRunOf, TextBegins}
use Rattle.console_run.specs.Causes.{EndsAtFaultyLine, Given, IsCut, IsFaulty, IsInParts, IsOver, IsUpToLine, RunsOutInLines}
use Rattle.console_run.specs.declared.open_blocks.OpenBlock.{OpenBlock}
use Rattle.console_run.specs.Private.Cuts.{cut_of}
use Rattle.run_report.specs.Reports.{Puts, BreaksOff}
use Rattle.console_run.specs.Private.Follows.{moment, IsOpened}
use Rattle.console_run.specs.Private.Reports.{EntryStops}
use Rattle.console_run.specs.Private.Runs.{HasBegun, HasBegunIf, IsPlaced, Leads, RunsThere, Stands, StopsThere, by_text, begun_by_text, open_of}
use Rattle.console_run.specs.Private.Runs.{Drawing, IsBrokenOff, IsReported, IsSoFar, IsStoppedAt, Moment, Start}
use Rattle.console_run.specs.Private.Runs.{StopsWithin, GoesOn, StopsAt, SourceFails, given_of}
use Rattle.run_report.proofs.KnownLemmas.{Puts-none, Puts-entries, Puts-entry, ReportBreaksOff-one}
use Rattle.console_run.proofs.AskLemmas.{line_breaks}
use Rattle.console_run.proofs.SoFarLemmas.{IsCut-from, begun_with_last, count_before, lines_with_last, run_before, run_with_last, whole_lines}

-- a stop that is not the source's leaves its count
pub SourceFails-other : (stop : Stop) (old new : ℕ) → (stop ≡ SourceStop → ⊥) → new ≡ old → SourceFails stop old new
SourceFails-other Line old new other same = same
SourceFails-other SourceStop old new other same = absurd (other refl)
SourceFails-other SinkStop old new other same = same
SourceFails-other MemoryStop old new other same = same
SourceFails-other Unreported old new other same = same

module _ {D G V R : Type 0} (on : Devices D G V) (draws : DrawGhosts R) (workers : ℕ) where
  -- a line that begins to give nothing leaves the run as it is
  begins_still : (by : Keying G) (block : BlockSoFar) (line : ScriptLine) (before : List Entry) (run after : Run D)
      → BeginsAt on by workers block line before run [] after → after ≡ run
  begins_still by None line before run after h = h
  begins_still by (Some asks) End before run after h = h.steps
  begins_still by (Some asks) line before run after h = h.1

  nothing_given : (by : Keying G) (block : BlockSoFar) (text : List ℕ) (before more : List Entry) (run after : Run D) → more ≡ []
      → TextBegins on by workers block text before run more after → after ≡ run
  nothing_given by block text before more run after none h = elim h [
    | inl same ↦ same.1
    | inr goes ↦ begins_still by block goes.line before run after (subst (λ more. BeginsAt on by workers block goes.line before run more after) none goes.begins)
  ]

  -- what is known of a run up to a place, and what came after it
  module _ (start : Start D G) (before after : List ℕ) (ended : Bool) (held : View D G R) (block : Option OpenBlock) (line : List ℕ) (count : ℕ) (out : Shown)
      (peers : Drawing) (so : IsSoFar on draws workers start before (moment held block line count out peers)) (short : length line ≤ 200)
      (near : length after ≤ 4096) (within : 0 < length line → count < 16384) where
    abbrev given : Given
    given = given_of (before ++ after) ended

    abbrev here : Moment D G R
    here = moment held block line count out peers

    stopped : IsFaulty (open_of block) ended (count + 1) line after
        → EndsAtFaultyLine on start.by workers given start.request start.run (count + 1) held.entries so.now
    stopped faulty = record {
      before = so.front;
      text = line;
      rest = after;
      cut = IsCut-from on draws workers start before here so after short near within;
      block = open_of block;
      run = run_before on draws workers start before here so;
      counted = ap (λ n. n + 1) (sym (count_before on draws workers start before here so));
      faulty = faulty;
    }

    -- the next line is faulty
    pub stopped_at_line : IsFaulty (open_of block) ended (count + 1) line after → IsReported on draws workers (BadLine (count + 1)) given start here
    stopped_at_line faulty = record { after = so.now; server = so.stands.reflects.server; cause = inl (stopped faulty); report = so.puts }

    -- the line was over, and began to give these entries
    up_to : (more : List Entry) (next : Run D) → TextBegins on start.by workers (open_of block) line held.entries so.now more next → IsOver ended after
        → count < 16384 → IsUpToLine on start.by workers given start.request start.run held.entries more next
    up_to more next begins over room = record {
      before = so.front;
      text = line;
      rest = after;
      cut = IsCut-from on draws workers start before here so after short near within;
      block = open_of block;
      middle = so.now;
      run = run_before on draws workers start before here so;
      begins = begins;
      over = inr (over, omega (arith, room, count_before on draws workers start before here so));
    }

    module _ (stop : Stop) (new : View D G R) (now : Shown) (over : IsOver ended after) (room : count < 16384)
        (h : StopsThere on.disks draws peers (begun_by_text on workers (open_of block) line) stop held new out now) (there : Moment D G R)
        (is_held : there.held ≡ new) (is_out : there.out ≡ now) where
      abbrev next : Leads (λ (after : Run D). IsServerOf on.disks draws new.server after.host) (begun_by_text on workers (open_of block) line) start.by so.now h.more
          held new
      next = (h.each start.by so.now so.stands).0

      -- in what it gave the report broke off
      broken : (ending : Ending) → LineBreaksOff ending out now h.more → IsBrokenOff on draws workers ending given start there
      broken ending breaks = record {
        after = next.after;
        server = subst (λ (held : View D G R). IsServerOf on.disks draws held.server next.after.host) (sym is_held) next.stands;
        history = record {
          done = held.entries;
          more = h.more;
          parts = ap (λ (held : View D G R). held.entries) is_held ∙ next.grown;
          up_to = inr (up_to h.more next.after next.given over room);
        };
        middle = out;
        report = so.puts;
        breaks = subst (λ now. LineBreaksOff ending out now h.more) (sym is_out) breaks;
      }

      abbrev all_put : Puts out now (entries_text h.more) → Puts start.was there.out (entries_text there.held.entries)
      all_put puts =
          subst (λ now. Puts start.was now (entries_text there.held.entries)) (sym is_out)
          (subst (λ (held : View D G R). Puts start.was now (entries_text held.entries)) (sym is_held)
          (subst (λ entries. Puts start.was now (entries_text entries)) (sym next.grown) (Puts-entries start.was out now held.entries h.more so.puts puts)))

      -- what it gave was reported
      reported : Puts out now (entries_text h.more) → IsReported on draws workers Memory given start there
      reported puts = record {
        after = next.after;
        server = subst (λ (held : View D G R). IsServerOf on.disks draws held.server next.after.host) (sym is_held) next.stands;
        cause = inr (subst (λ (held : View D G R). RunsOutInLines on start.by workers given start.request start.run held.entries next.after) (sym is_held)
            (record { done = held.entries; more = h.more; parts = next.grown; up_to = up_to h.more next.after next.given over room }));
        report = all_put puts;
      }

      -- it gave nothing, for it is faulty
      faulty_line : IsFaulty (open_of block) ended (count + 1) line after → h.more ≡ [] → Puts out now []
          → IsReported on draws workers (BadLine (count + 1)) given start there
      faulty_line faulty none puts =
          let same : new.entries ≡ held.entries = next.grown ∙ ap (λ more. held.entries ++ more) none ∙ append-nil held.entries in
          let stays : next.after ≡ so.now = nothing_given start.by (open_of block) line held.entries h.more so.now next.after none next.given in
          record {
            after = next.after;
            server = subst (λ (held : View D G R). IsServerOf on.disks draws held.server next.after.host) (sym is_held) next.stands;
            cause = inl (subst (λ (held : View D G R). EndsAtFaultyLine on start.by workers given start.request start.run (count + 1) held.entries next.after)
                (sym is_held)
                (subst (λ entries. EndsAtFaultyLine on start.by workers given start.request start.run (count + 1) entries next.after) (sym same)
                (subst (EndsAtFaultyLine on start.by workers given start.request start.run (count + 1) held.entries) (sym stays) (stopped faulty))));
            report = all_put (subst (λ more. Puts out now (entries_text more)) (sym none) puts);
          }

    -- the run stopped in it
    pub stopped_in_line : (stop : Stop) (new : View D G R) (now : Shown) → IsOver ended after → count < 16384
        → (stop ≡ Line → after_text (open_of block) line ≡ None)
        → StopsThere on.disks draws peers (begun_by_text on workers (open_of block) line) stop held new out now → (there : Moment D G R) → there.held ≡ new
        → there.out ≡ now → there.count ≡ count → IsStoppedAt on draws workers stop given start there
    stopped_in_line Line new now over room faulty h there is_held is_out counted =
        let reports = (h.each start.by so.now so.stands).1 in
        subst (λ count. IsReported on draws workers (BadLine (count + 1)) given start there) (sym counted)
        (faulty_line Line new now over room h there is_held is_out (inr (inr (faulty refl, over))) reports.0 reports.1)
    stopped_in_line SourceStop new now over room faulty h there is_held is_out counted = absurd (h.each start.by so.now so.stands).1
    stopped_in_line SinkStop new now over room faulty h there is_held is_out counted =
        broken SinkStop new now over room h there is_held is_out Sink (h.each start.by so.now so.stands).1
    stopped_in_line MemoryStop new now over room faulty h there is_held is_out counted =
        reported MemoryStop new now over room h there is_held is_out (h.each start.by so.now so.stands).1
    stopped_in_line Unreported new now over room faulty h there is_held is_out counted =
        broken Unreported new now over room h there is_held is_out Memory (h.each start.by so.now so.stands).1

  -- the source failed, so nothing came after the octets so far
  lost : (start : Start D G) (before : List ℕ) (now : Moment D G R) → IsSoFar on draws workers start before now → length now.line ≤ 200
      → (0 < length now.line → now.count < 16384)
      → IsReported on draws workers Source (given_of before false) start now
  lost start before now so short within = record {
    after = so.now;
    server = so.stands.reflects.server;
    cause = record {
      before = so.front;
      text = now.line;
      cut = subst (λ taken. IsCut taken so.front now.line []) (append-nil before)
          (IsCut-from on draws workers start before now so [] short (omega arith) within);
      block = open_of now.block;
      run = run_before on draws workers start before now so;
    };
    report = so.puts;
  }

  -- ---- the end of a script

  -- Its lines were run, and reported; there.
  module _ (start : Start D G) (before : List ℕ) (lines : List (List ℕ)) (are : script_lines before ≡ lines) (there : Moment D G R) (run : Run D)
      (server : IsServerOf on.disks draws there.held.server run.host) (puts : Puts start.was there.out (entries_text there.held.entries)) where
    -- no block is open
    ended_whole : IsRunOf on start.by workers start.request start.run lines None there.held.entries run
        → IsReported on draws workers Whole (given_of before true) start there
    ended_whole ran = record {
      after = run;
      server = server;
      cause = record {
        ended = refl;
        run = subst (λ lines. IsRunOf on start.by workers start.request start.run lines None there.held.entries run) (sym are) ran;
      };
      report = puts;
    }

    -- or one is
    ended_inside : (block : OpenBlock) → length lines ≤ most_lines → HasBegun on draws workers start lines there.held.entries run block → there.count ≡ block.before
        → IsReported on draws workers (BadLine (there.count + 1)) (given_of before true) start there
    ended_inside block few begun counted =
        subst (λ count. IsReported on draws workers (BadLine (count + 1)) (given_of before true) start there) (sym counted) (record {
          after = run;
          server = server;
          cause = inr (record {
            ended = refl;
            front = begun.front;
            first = begun.first;
            inner = begun.inner;
            few = subst (λ lines. length lines ≤ most_lines) (sym are) few;
            lines = are ∙ begun.parts;
            run = begun.run;
            begins = begun.begins;
            asks = block.asks;
            inside = begun.inside;
            counted = ap (λ n. n + 1) (sym begun.counted);
          });
          report = puts;
        })

  -- the script ends with its last line
  pub whole_script : (start : Start D G) (before : List ℕ) (now : Moment D G R) → IsSoFar on draws workers start before now → now.line ≡ [] → now.block ≡ None
      → IsReported on draws workers Whole (given_of before true) start now
  whole_script start before now so none closed =
      ended_whole start before (cut_of before).lines (whole_lines on draws workers start before now so none) now so.now so.stands.reflects.server so.puts
      (subst (λ block. IsRunOf on start.by workers start.request start.run (cut_of before).lines (open_of block) now.held.entries so.now) closed so.run)

  pub inside_script : (start : Start D G) (before : List ℕ) (now there : Moment D G R) (block : OpenBlock) → IsSoFar on draws workers start before now
      → now.line ≡ [] → now.block ≡ Some block → there.held ≡ now.held → there.out ≡ now.out → there.count ≡ block.before
      → IsReported on draws workers (BadLine (there.count + 1)) (given_of before true) start there
  inside_script start before now there block so none is is_held is_out counted =
      ended_inside start before (cut_of before).lines (whole_lines on draws workers start before now so none) there so.now
      (subst (λ (held : View D G R). IsServerOf on.disks draws held.server so.now.host) (sym is_held) so.stands.reflects.server)
      (subst (λ out. Puts start.was out (entries_text there.held.entries)) (sym is_out)
      (subst (λ (held : View D G R). Puts start.was now.out (entries_text held.entries)) (sym is_held) so.puts)) block so.run.few
      (subst (λ (held : View D G R). HasBegun on draws workers start (cut_of before).lines held.entries so.now block) (sym is_held)
      (subst (λ block. HasBegunIf on draws workers start (cut_of before).lines now.held.entries so.now block) is so.begun)) counted

  -- or in the middle of a line, which was run
  module _ (start : Start D G) (before : List ℕ) (now : Moment D G R) (so : IsSoFar on draws workers start before now) (some : 0 < length now.line)
      (room : now.count < 16384) (new : View D G R) (after : Option OpenBlock) (out : Shown) (placed : IsPlaced now.count now.block after)
      (run : RunsThere on.disks draws now.peers (by_text on workers (open_of now.block) now.line (open_of after)) now.held new now.out out)
      (there : Moment D G R) (is_held : there.held ≡ new) (is_out : there.out ≡ out) where
    abbrev last : Leads (Stands on.disks draws now.peers start.by new) (by_text on workers (open_of now.block) now.line (open_of after)) start.by so.now run.more
        now.held new
    last = run.each start.by so.now so.stands

    server_there : IsServerOf on.disks draws there.held.server last.after.host
    server_there = subst (λ (held : View D G R). IsServerOf on.disks draws held.server last.after.host) (sym is_held) last.stands.reflects.server

    put_there : Puts start.was there.out (entries_text there.held.entries)
    put_there =
        subst (λ out. Puts start.was out (entries_text there.held.entries)) (sym is_out)
        (subst (λ (held : View D G R). Puts start.was out (entries_text held.entries)) (sym is_held)
        (subst (λ entries. Puts start.was out (entries_text entries)) (sym last.grown)
        (Puts-entries start.was now.out out now.held.entries run.more so.puts run.puts)))

    pub whole_with_last : after ≡ None → IsReported on draws workers Whole (given_of before true) start there
    whole_with_last closed =
        ended_whole start before ((cut_of before).lines ++ now.line ∷ []) (lines_with_last on draws workers start before now so some) there last.after
        server_there put_there
        (subst (λ (held : View D G R). IsRunOf on start.by workers start.request start.run ((cut_of before).lines ++ now.line ∷ []) None held.entries last.after)
        (sym is_held)
        (subst (λ block. IsRunOf on start.by workers start.request start.run ((cut_of before).lines ++ now.line ∷ []) (open_of block) new.entries last.after) closed
        (run_with_last on draws workers start before now so new after out room placed run)))

    pub inside_with_last : (block : OpenBlock) → after ≡ Some block → there.count ≡ block.before
        → IsReported on draws workers (BadLine (there.count + 1)) (given_of before true) start there
    inside_with_last block is counted =
        ended_inside start before ((cut_of before).lines ++ now.line ∷ []) (lines_with_last on draws workers start before now so some) there last.after
        server_there put_there block (run_with_last on draws workers start before now so new after out room placed run).few
        (subst (λ (held : View D G R). HasBegun on draws workers start ((cut_of before).lines ++ now.line ∷ []) held.entries last.after block) (sym is_held)
        (subst (λ block. HasBegunIf on draws workers start ((cut_of before).lines ++ now.line ∷ []) new.entries last.after block) is
        (begun_with_last on draws workers start before now so new after out room placed run))) counted

  -- the run stopped in what comes after the last line end
  pub stopped_at_end : (start : Start D G) (before : List ℕ) (stop : Stop) (held new : View D G R) (block : Option OpenBlock) (line : List ℕ) (count : ℕ)
      (out now : Shown) (peers : Drawing) → IsSoFar on draws workers start before (moment held block line count out peers)
      → length line ≤ 200 → count < 16384 → (stop ≡ Line → after_text (open_of block) line ≡ None)
      → StopsThere on.disks draws peers (begun_by_text on workers (open_of block) line) stop held new out now → (there : Moment D G R) → there.held ≡ new
      → there.out ≡ now → there.count ≡ count → IsStoppedAt on draws workers stop (given_of before true) start there
  stopped_at_end start before stop held new block line count out now peers so short room faulty h there is_held is_out counted =
      subst (λ taken. IsStoppedAt on draws workers stop (given_of taken true) start there) (append-nil before)
      (stopped_in_line start before [] true held block line count out peers so short (omega arith) (λ some. room) stop new now (inr (refl, refl)) room
      faulty h there is_held is_out counted)

  -- what is known where the group was opened and nothing of the script was taken
  module _ (start : Start D G) (held : View D G R) (now : Shown) (peers : Drawing) (opened : IsOpened on draws peers start held) where
    abbrev opening : IsInParts on start.by workers (given_of [] false) start.request start.run held.entries opened.opened
    opening = record {
      done = [];
      more = held.entries;
      parts = refl;
      up_to = inl (record { none_taken = refl; nothing = refl; begins = inr opened.opens.first });
    }

    -- out of memory before going on
    pub no_memory_after_opening : Puts start.was now (entries_text held.entries)
        → IsReported on draws workers Memory (given_of [] false) start (moment held None [] 0 now peers)
    no_memory_after_opening puts = record {
      after = opened.opened;
      server = opened.stands.reflects.server;
      cause = inl (record {
        none_taken = refl;
        begins = inr (opened.opens.first, λ why refused cannot. false≢true (sym (ap is_open refused) ∙ opened.opens.is_open));
      });
      report = puts;
    }

    -- the report of that broke off
    opening_broken : (ending : Ending) → BreaksOff ending start.was now (entry_text opened.opens.first.entry)
        → IsBrokenOff on draws workers ending (given_of [] false) start (moment held None [] 0 now peers)
    opening_broken ending h = record {
      after = opened.opened;
      server = opened.stands.reflects.server;
      history = opening;
      middle = start.was;
      report = Puts-none start.was;
      breaks = subst (LineBreaksOff ending start.was now) (sym opened.opens.first.alone)
          (line_breaks ending start.was now (opened.opens.first.entry ∷ []) (ReportBreaksOff-one ending start.was now opened.opens.first.entry h));
    }

    pub opening_reported : Puts start.was now (entry_text opened.opens.first.entry) → Puts start.was now (entries_text held.entries)
    opening_reported puts =
        subst (λ entries. Puts start.was now (entries_text entries)) (sym opened.opens.first.alone) (Puts-entry start.was now opened.opens.first.entry puts)

    pub stopped_at_opening : (stop : Stop) → EntryStops stop start.was now opened.opens.first.entry
        → IsStoppedAt on draws workers stop (given_of [] false) start (moment held None [] 0 now peers)
    stopped_at_opening Line h = absurd h
    stopped_at_opening SourceStop h = absurd h
    stopped_at_opening SinkStop h = opening_broken Sink h
    stopped_at_opening MemoryStop h = no_memory_after_opening (opening_reported h.0)
    stopped_at_opening Unreported h = opening_broken Memory h

  -- a piece of which some octets were taken, and at the next the run stopped
  pub StopsWithin-piece : (piece : List ℕ) (place : ℕ) (stop : Stop) (old middle new : Moment D G R) → are_octets piece ≡ true → length piece ≤ 4096
      → place < length piece
      → GoesOn on draws workers (take place piece) old middle → StopsAt on draws workers (get_or piece place 0) stop middle new → StopsWithin on draws workers piece stop old new
  StopsWithin-piece piece place stop old middle new small short within goes stops start before so =
      let octet = get_or piece place 0 in
      let later = drop (place + 1) piece in
      let front = take (place + 1) piece in
      let whole : front ++ later ≡ piece = take-append-drop (place + 1) piece in
      let each = and_parts (are_octets front) (are_octets later)
      (sym (list_all-append (λ octet. nat_lt octet 256) front later) ∙ ap are_octets whole ∙ small) in
      let same : take place piece ++ (octet ∷ later) ≡ piece =
      sym (append_assoc (take place piece) (octet ∷ []) later) ∙ ap (λ front. front ++ later) (sym (take_more piece place 0 within)) ∙ whole in
      subst (λ octets. IsStoppedAt on draws workers stop (given_of octets false) start new)
      (append_assoc before (take place piece) (octet ∷ later) ∙ ap (λ rest. before ++ rest) same)
      (stops later (omega (arith, short, within, length-drop (place + 1) piece)) each.1 start (before ++ take place piece) (goes start before so))

  -- the same where other octets were taken before
  pub StopsWithin-then : (a b : List ℕ) (stop : Stop) (first second new : Moment D G R) → GoesOn on draws workers a first second
      → StopsWithin on draws workers b stop second new → StopsWithin on draws workers (a ++ b) stop first new
  StopsWithin-then a b stop first second new goes stops start before so =
      subst (λ octets. IsStoppedAt on draws workers stop (given_of octets false) start new) (append_assoc before a b) (stops start (before ++ a) (goes start before so))

  -- no octet came after the octets that were taken
  pub StopsWithin-lost : (taken : List ℕ) (old now : Moment D G R) → GoesOn on draws workers taken old now → length now.line ≤ 200
      → (0 < length now.line → now.count < 16384)
      → StopsWithin on draws workers taken SourceStop old now
  StopsWithin-lost taken old now goes short within start before so = lost start (before ++ taken) now (goes start before so) short within
