-- One line of a script, request by request.
-- What a line gives is a recursion over its entries (`GoesThrough`), each of which answers what `AsksNext` says; `GoesThrough-then` adds one at the end, where
-- code adds. `Going` is a loop of requests with a property of the run (`keeps`): the last delivery for deliver-all, `any_run` for a line of one request.
-- What is said of the keys of the engine (`keys_of`) is said of the keys of a run (`same_keys`).
use Rattle.std.proofs.Common.{◌≡◌, ◌⊎◌, ℕ, false, ◌||◌, List, [], ◌∷◌, ◌++◌, Option, None, Some, Result, Ok, Err, sym, refl, ap, ◌∙◌, subst, inl, inr, ⊎_elim, append_assoc}
use Rattle.std.specs.Prelude.{IfErr, MatchResult, OnOk, option_and_then}
use Rattle.std.proofs.lemmas.Bool.{or_parts}
use Rattle.std.proofs.lemmas.List.{append-nil}
use Rattle.std.proofs.lemmas.List.Folds.{list_any-append}
use Rattle.std.proofs.lemmas.Result.{IfOk-at_ok, MatchResult-weaker}
use Rattle.gd_disk.specs.declared.disks.Disk.{Ghosts as DiskGhosts}
use Rattle.gd_edges.specs.Shown.{Shown}
use Rattle.gd_edges.specs.declared.draws.Draws.{Ghosts as DrawGhosts}
use Rattle.group_model.specs.Answers.{any_ran_out, ran_out}
use Rattle.group_model.specs.declared.entries.Asked.{Asked}
use Rattle.group_model.specs.declared.entries.Entry.{Entry}
use Rattle.group_terms.specs.declared.memory.NoMemory.{NoMemory}
use Rattle.group_run.specs.Moves.{Moves}
use Rattle.group_run.specs.Reads.{Ask}
use Rattle.group_run.specs.Reflects.{Reflects}
use Rattle.group_run.specs.Views.{View}
use Rattle.group_steps.specs.Devices.{Devices, Keying, keying}
use Rattle.group_steps.specs.Runs.{Run, with_members}
use Rattle.member_steps.specs.Members.{Members}
use Rattle.server_steps.specs.Reflects.{IsServerOf}
use Rattle.script_text.specs.Lines.{line_of}
use Rattle.script_text.specs.Report.{entry_text, entries_text}
use Rattle.script_text.specs.declared.lines.Line.{Line as ScriptLine}
use Rattle.script_text.specs.declared.lines.Line.TheVariants as lines
use Rattle.run_report.specs.declared.stops.Stop.{Stop}
use Rattle.run_report.specs.declared.stops.Stop.TheVariants.{Line, Source, Sink, Memory, Unreported}
use Rattle.run_report.specs.declared.endings.Ending.{Ending}
use Rattle.run_report.specs.declared.endings.Ending.TheVariants.{Sink as SinkEnding, Memory as MemoryEnding}
use Rattle.console_run.specs.Names.{console_name}
use Rattle.console_run.specs.Lines.{AsksAfter, AsksBy, AsksFirst, AsksNext, BeginsAt, BeginsToGive, GivesAt, GoesThrough, IsAnsweredHere, IsGivenAfter}
use Rattle.run_report.specs.Reports.{BreaksOff, Puts, ReportBreaksOff}
use Rattle.console_run.specs.Blocks.{BlockSoFar, after_in_block, after_line, after_outside, after_text}
use Rattle.console_run.specs.Breaks.{LineBreaksOff}
use Rattle.register_workers.specs.declared.lines.BlockAsk.{BlockAsk}
use Rattle.console_run.specs.Private.Asks.{Answers, RunsAt, RunsBlock, RunsLine, RunsLineAt, StopsAtLine, StopsIn}
use Rattle.console_run.specs.Private.Reports.{EntryStops}
use Rattle.console_run.specs.Private.Runs.{Drawing, Giving, ReportsThere, ReportsUntil, Runs, RunsThere, Stands, StopsThere, begun_at, begun_by_block, begun_by_text, by_block}
use Rattle.console_run.specs.Private.Runs.{by_line, by_text, given_at}
use Rattle.run_report.proofs.KnownLemmas.{Puts-entries, Puts-entry, Puts-none, ReportBreaksOff-last}
use Rattle.console_run.proofs.ActLemmas.{last_is}

-- ---- what a request of the engine answers

module _ {D G R : Type 0} (draws : DrawGhosts R) (peers : Drawing) (held : View D G R) where
  -- what a group makes its keys with, and its members theirs
  abbrev pub keys_of : Keying G
  keys_of = keying held.server.core.signer (draws.block_at held.server.core.draws) peers.block console_name

  pub same_keys : (d : DiskGhosts D) (by : Keying G) (run : Run D) → Stands d draws peers by held run → keys_of ≡ by
  same_keys d by run stands =
      λ i. keying (stands.signer i) (λ k. stands.blocks k i) (λ k. stands.members_blocks k i) (sym stands.group i)

module _ {D G V R : Type 0} (on : Devices D G V) (draws : DrawGhosts R) (peers : Drawing) (old new : View D G R) where
  -- what a step does that answers a request, with the server that the group has
  abbrev pub MovesBy : Members → Asked → Type 0
  MovesBy acted request = Moves on.disks draws (IsAnsweredHere on (keys_of draws peers old) old.entries request) acted request old new

  pub Answers-by : (acted : Members) (request : Asked) → MovesBy acted request → Answers on draws peers acted request old new
  Answers-by acted request moves = record {
    entry = moves.entry;
    added = moves.added;
    asked = moves.asked;
    each = λ by run stands.
        let next = moves.each run stands.reflects in (
          next.0,
          subst (λ by. IsGivenAfter on by acted old.entries run moves.entry next.0) (same_keys draws peers old on.disks by run stands) (record {
            answered = subst
                (λ asked. IsAnsweredHere on (keys_of draws peers old) old.entries asked (with_members run acted) moves.entry.answer moves.entry.outside next.0)
                (sym moves.asked) next.1.answered;
            keeps = next.1.keeps;
            counts = next.1.counts;
          }),
          record {
            reflects = next.2;
            signer = moves.goes_on.signer ∙ stands.signer;
            blocks = λ k. moves.goes_on.blocks k ∙ stands.blocks k;
            members_blocks = stands.members_blocks;
            group = stands.group;
          },
        );
  }

module _ {D G V R : Type 0} (on : Devices D G V) (draws : DrawGhosts R) (peers : Drawing) (held : View D G R) where
  -- what a line asks with the keys of the engine, it asks with the keys of a run
  pub asks_by : (line : ScriptLine) (so_far : List Entry) (next : Option Ask) (by : Keying G) (run : Run D) → Stands on.disks draws peers by held run
      → (before : List Entry) → AsksNext peers.block console_name run before so_far line next → AsksNext by.members_block by.group run before so_far line next
  asks_by line so_far next by run stands before asks =
      subst (λ (by : Keying G). AsksNext by.members_block by.group run before so_far line next) (same_keys draws peers held on.disks by run stands) asks

-- what a line asks after its last entry
pub asks_later : {D : Type 0} (line : ScriptLine) (block : ℕ → List ℕ) (group : List ℕ) (run : Run D) (before front : List Entry) (last : Entry)
    (next : Option Ask) → AsksAfter block group run before (front ++ last ∷ []) line last next → AsksNext block group run before (front ++ last ∷ []) line next
asks_later line block group run before front last next asks =
    subst (λ (found : Option Entry). AsksBy block group run before (front ++ last ∷ []) line found next) (sym (last_is front last)) asks

module _ {D G V R : Type 0} (on : Devices D G V) (draws : DrawGhosts R) (peers : Drawing) (old new : View D G R) where
  -- a line asks just once, and its request was answered
  pub record AsksOnce (line : ScriptLine) : Type 0 where
    pub request : Asked
    pub first : (run : Run D) (members : Members) → AsksFirst peers.block console_name run old.entries [] line members (Some (request, members))
    pub later : (run : Run D) (so_far : List Entry) (last : Entry) → AsksAfter peers.block console_name run old.entries so_far line last None
    pub answers : Answers on draws peers old.members request old new

  -- a call answered it
  pub asked_once : (line kind : ScriptLine) → line ≡ kind → (request : Asked)
      → ((run : Run D) (members : Members) → AsksFirst peers.block console_name run old.entries [] kind members (Some (request, members)))
      → ((run : Run D) (so_far : List Entry) (last : Entry) → AsksAfter peers.block console_name run old.entries so_far kind last None)
      → (held : View D G R) → new ≡ held → (call : Result Unit NoMemory) (u : Unit {0}) → call ≡ Ok u
      → OnOk call (MovesBy on draws peers old held old.members request) → AsksOnce line
  asked_once line kind is request first later held same call u ok moves = record {
    request = request;
    first = subst
        (λ line. (run : Run D) (members : Members) → AsksFirst peers.block console_name run old.entries [] line members (Some (request, members)))
        (sym is) first;
    later = subst
        (λ line. (run : Run D) (so_far : List Entry) (last : Entry) → AsksAfter peers.block console_name run old.entries so_far line last None)
        (sym is) later;
    answers = subst (λ new. Answers on draws peers old.members request old new) (sym same)
        (Answers-by on draws peers old held old.members request (IfOk-at_ok (λ _. MovesBy on draws peers old held old.members request) ok moves));
  }

-- ---- entry after entry

module _ {D G V : Type 0} (on : Devices D G V) (by : Keying G) (line : ScriptLine) (before : List Entry) where
  -- a line goes through one entry more
  pub GoesThrough-then : (so_far : List Entry) (run : Run D) (more : List Entry) (middle : Run D) (entry : Entry) (acted : Members) (after : Run D)
      → any_ran_out more ≡ false → GoesThrough on by line before so_far run more middle
      → AsksNext by.members_block by.group middle before (so_far ++ more) line (Some (entry.asked, acted))
      → IsGivenAfter on by acted (before ++ (so_far ++ more)) middle entry after
      → GoesThrough on by line before so_far run (more ++ entry ∷ []) after
  GoesThrough-then so_far run [] middle entry acted after enough same asks step = (
    acted,
    subst (λ (run : Run D). AsksNext by.members_block by.group run before so_far line (Some (entry.asked, acted))) same
        (subst (λ list. AsksNext by.members_block by.group middle before list line (Some (entry.asked, acted))) (append-nil so_far) asks),
    inl refl,
    after,
    subst (λ (run : Run D). IsGivenAfter on by acted (before ++ so_far) run entry after) same
        (subst (λ list. IsGivenAfter on by acted (before ++ list) middle entry after) (append-nil so_far) step),
    refl,
  )
  GoesThrough-then so_far run (first ∷ more) middle entry acted after enough goes asks step =
      let enough_memory = or_parts (ran_out first.answer) (any_ran_out more) enough in
      let same = sym (append_assoc so_far (first ∷ []) more) in (
        goes.0,
        goes.1,
        inr enough_memory.0,
        goes.3,
        goes.4,
        GoesThrough-then (so_far ++ first ∷ []) goes.3 more middle entry acted after enough_memory.1 goes.5
            (subst (λ list. AsksNext by.members_block by.group middle before list line (Some (entry.asked, acted))) same asks)
            (subst (λ list. IsGivenAfter on by acted (before ++ list) middle entry after) same step),
      )

-- one entry more, at which the report stopped
pub until : (stop : Stop) (was seen now : Shown) (more : List Entry) (entry : Entry) → Puts was seen (entries_text more) → EntryStops stop seen now entry
    → ReportsUntil stop was now (more ++ entry ∷ [])
until stop was seen now more entry puts stops = by_stop stop stops
  where
    broken : (ending : Ending) → BreaksOff ending seen now (entry_text entry) → ReportBreaksOff ending was now (more ++ entry ∷ [])
    broken ending h = ReportBreaksOff-last ending was seen now more entry puts h

    by_stop : (stop : Stop) → EntryStops stop seen now entry → ReportsUntil stop was now (more ++ entry ∷ [])
    by_stop Line h = absurd h
    by_stop Source h = absurd h
    by_stop Sink h = broken SinkEnding h
    by_stop Memory h = Puts-entries was seen now more (entry ∷ []) puts (Puts-entry seen now entry h.0)
    by_stop Unreported h = broken MemoryEnding h

module _ {D G V R : Type 0} (on : Devices D G V) (draws : DrawGhosts R) (peers : Drawing) (line : ScriptLine) where
  -- A line has given entries so far, all of them reported, and memory did not run out. Whatever run it was before, these have made a run with such a property.
  pub record Going (keeps : List Entry → Run D → Type 0) (more : List Entry) (old new : View D G R) (was now : Shown) : Type 0 where
    pub grown : new.entries ≡ old.entries ++ more
    pub enough : any_ran_out more ≡ false
    pub each : (by : Keying G) (run : Run D) → Stands on.disks draws peers by old run
        → (after : Run D) × BeginsToGive on by line old.entries run more after × Stands on.disks draws peers by new after × keeps more after
    pub puts : Puts was now (entries_text more)

  -- nothing was asked yet
  pub Going-none : (keeps : List Entry → Run D → Type 0) (old : View D G R) (was : Shown)
      → ((run : Run D) → Reflects on.disks draws old run → keeps [] run) → Going keeps [] old old was was
  Going-none keeps old was begins = record {
    grown = sym (append-nil old.entries);
    enough = refl;
    each = λ by run stands. (run, refl, stands, begins run stands.reflects);
    puts = Puts-none was;
  }

  module _ (keeps : List Entry → Run D → Type 0) (more : List Entry) (old middle : View D G R) (was seen : Shown)
      (going : Going keeps more old middle was seen) where
    -- nothing more is asked
    pub Runs-all : ((run : Run D) → Reflects on.disks draws middle run → keeps more run → AsksNext peers.block console_name run old.entries more line None)
        → Runs on.disks draws peers (by_line on line) old middle was seen
    Runs-all no_more = record {
      more = more;
      grown = going.grown;
      each = λ by run stands.
          let h = going.each by run stands in (
            h.0,
            record {
              begins = h.1;
              no_more = asks_by on draws peers middle line more None by h.0 h.2 old.entries (no_more h.0 h.2.reflects h.3);
              enough_memory = going.enough;
            },
            h.2,
          );
      puts = going.puts;
    }

    -- out of memory for a request
    pub Stops-unasked : (new : View D G R) → new.server ≡ middle.server → new.entries ≡ middle.entries
        → StopsIn on draws peers line Memory old new was seen
    Stops-unasked new server entries = record {
      stops = record {
        more = more;
        grown = entries ∙ going.grown;
        each = λ by run stands.
            let h = going.each by run stands in
            (h.0, h.1, subst (λ server. IsServerOf on.disks draws server h.0.host) (sym server) h.2.reflects.server);
        reports = going.puts;
      };
      known = λ same. cc;
    }

    -- one request was answered
    module _ (new : View D G R) (acted : Members) (request : Asked) (answers : Answers on draws peers acted request middle new)
        (asks : (run : Run D) → Reflects on.disks draws middle run → keeps more run
        → AsksNext peers.block console_name run old.entries more line (Some (request, acted))) where
      abbrev all_now : List Entry
      all_now = more ++ answers.entry ∷ []

      grown_now : new.entries ≡ old.entries ++ all_now
      grown_now =
          answers.added ∙ ap (λ entries. entries ++ answers.entry ∷ []) going.grown
          ∙ append_assoc old.entries more (answers.entry ∷ [])

      -- from the run that the entries so far have made
      record Goes (by : Keying G) (run : Run D) : Type 0 where
        middle_run : Run D
        stood : Stands on.disks draws peers by middle middle_run
        kept : keeps more middle_run
        after : Run D
        step : IsGivenAfter on by acted middle.entries middle_run answers.entry after
        gives : BeginsToGive on by line old.entries run all_now after
        stands : Stands on.disks draws peers by new after

      goes : (by : Keying G) (run : Run D) → Stands on.disks draws peers by old run → Goes by run
      goes by run stands =
          let h = going.each by run stands in
          let next = answers.each by h.0 h.2 in
          record {
            middle_run = h.0;
            stood = h.2;
            kept = h.3;
            after = next.0;
            step = next.1;
            gives = GoesThrough-then on by line old.entries [] run more h.0 answers.entry acted next.0 going.enough h.1
                (subst (λ asked. AsksNext by.members_block by.group h.0 old.entries more line (Some (asked, acted))) (sym answers.asked)
                (asks_by on draws peers middle line more (Some (request, acted)) by h.0 h.2 old.entries (asks h.0 h.2.reflects h.3)))
                (subst (λ entries. IsGivenAfter on by acted entries h.0 answers.entry next.0) going.grown next.1);
            stands = next.2;
          }

      -- and reported
      pub Going-more : (keeps_now : List Entry → Run D → Type 0) (now : Shown)
          → ((by : Keying G) (run next : Run D) → Stands on.disks draws peers by middle run → keeps more run
          → IsGivenAfter on by acted middle.entries run answers.entry next → keeps_now all_now next)
          → Puts seen now (entry_text answers.entry) → ran_out answers.entry.answer ≡ false → Going keeps_now all_now old new was now
      Going-more keeps_now now kept puts enough = record {
        grown = grown_now;
        enough = list_any-append (λ (entry : Entry). ran_out entry.answer) more (answers.entry ∷ []) ∙ (λ i. going.enough i || (enough i || false));
        each = λ by run stands. let h = goes by run stands in (h.after, h.gives, h.stands, kept by h.middle_run h.after h.stood h.kept h.step);
        puts = Puts-entries was seen now more (answers.entry ∷ []) going.puts (Puts-entry seen now answers.entry puts);
      }

      -- or there the run stopped
      pub Stops-more : (now : Shown) (stop : Stop) → EntryStops stop seen now answers.entry → StopsIn on draws peers line stop old new was now
      Stops-more now stop stops = record {
        stops = record {
          more = all_now;
          grown = grown_now;
          each = λ by run stands. let h = goes by run stands in (h.after, h.gives, h.stands.reflects.server);
          reports = until stop was seen now more answers.entry going.puts stops;
        };
        known = λ same. subst (λ stop. EntryStops stop seen now answers.entry) same stops;
      }

-- ---- lines that ask once

-- nothing has to be known of the runs of such a line
abbrev pub any_run : {D : Type 0} → List Entry → Run D → Type 0
any_run more run = Unit {0}

module _ {D G V R : Type 0} (on : Devices D G V) (draws : DrawGhosts R) (peers : Drawing) (old new : View D G R) (was now : Shown) where
  -- the report of the last entry was put, and memory did not run out in it
  abbrev pub IsReported : Type 0
  IsReported = (front : List Entry) (entry : Entry) → new.entries ≡ front ++ entry ∷ [] → Puts was now (entry_text entry) × (ran_out entry.answer ≡ false)

  -- or there the run stopped
  abbrev pub IsStopped : Stop → Type 0
  IsStopped stop = (front : List Entry) (entry : Entry) → new.entries ≡ front ++ entry ∷ [] → EntryStops stop was now entry

  module _ (line : ScriptLine) (rest : old.members.mail ≡ []) (h : AsksOnce on draws peers old new line) where
    begun : Going on draws peers line any_run [] old old was was
    begun = Going-none on draws peers line any_run old was (λ run reflects. tt)

    asks_first : (run : Run D) → Reflects on.disks draws old run → AsksNext peers.block console_name run old.entries [] line (Some (h.request, old.members))
    asks_first run reflects = (old.members, (reflects.members, rest), h.first run old.members)

    Runs-once : IsReported → Runs on.disks draws peers (by_line on line) old new was now
    Runs-once reported =
        let entry = h.answers.entry in
        let told = reported old.entries entry h.answers.added in
        Runs-all on draws peers line any_run (entry ∷ []) old new was now
        (Going-more on draws peers line any_run [] old old was was begun new old.members h.request h.answers
        (λ run reflects kept. asks_first run reflects) any_run now
        (λ by run next stands kept step. tt) told.0 told.1)
        (λ run reflects kept. asks_later line peers.block console_name run old.entries [] entry None (h.later run (entry ∷ []) entry))

    pub Ends-once : (result : Result Unit Stop) → OnOk result IsReported → IfErr result IsStopped
        → MatchResult result (λ _. Runs on.disks draws peers (by_line on line) old new was now) (λ stop. StopsIn on draws peers line stop old new was now)
    Ends-once (Ok u) reported stopped = Runs-once reported
    Ends-once (Err stop) reported stopped =
        Stops-more on draws peers line any_run [] old old was was begun new old.members h.request h.answers (λ run reflects kept. asks_first run reflects) now
        stop
        (stopped old.entries h.answers.entry h.answers.added)

-- out of memory for the first request of a line
pub Stops-unbegun : {D G V R : Type 0} (on : Devices D G V) (draws : DrawGhosts R) (peers : Drawing) (line : ScriptLine) (old new : View D G R) (was : Shown)
    → new.server ≡ old.server → new.entries ≡ old.entries → StopsIn on draws peers line Memory old new was was
Stops-unbegun on draws peers line old new was server entries =
    Stops-unasked on draws peers line any_run [] old old was was (Going-none on draws peers line any_run old was (λ run reflects. tt)) new server entries

-- a line that asks nothing
pub Runs-nothing : {D G V R : Type 0} (on : Devices D G V) (draws : DrawGhosts R) (peers : Drawing) (held : View D G R) (out : Shown) (line : ScriptLine)
    → ((run : Run D) (members : Members) → AsksFirst peers.block console_name run held.entries [] line members None) → held.members.mail ≡ []
    → Runs on.disks draws peers (by_line on line) held held out out
Runs-nothing on draws peers held out line nothing rest =
    Runs-all on draws peers line any_run [] held held out out (Going-none on draws peers line any_run held out (λ run reflects. tt))
    (λ run reflects kept. (held.members, (reflects.members, rest), nothing run held.members))

-- ---- where lines stand

-- a report of one line that broke off
pub line_breaks : (ending : Ending) (was now : Shown) (more : List Entry) → ReportBreaksOff ending was now more → LineBreaksOff ending was now more
line_breaks ending was now more breaks =
    record { told = more; untold = []; parts = sym (append-nil more); breaks = breaks; block = inl refl }

reports_there : (stop : Stop) (was now : Shown) (more : List Entry) → ReportsUntil stop was now more → ReportsThere stop was now more
reports_there Line was now more h = h
reports_there Source was now more h = h
reports_there Sink was now more h = line_breaks SinkEnding was now more h
reports_there Memory was now more h = h
reports_there Unreported was now more h = line_breaks MemoryEnding was now more h

module _ {D G V R : Type 0} (on : Devices D G V) (draws : DrawGhosts R) (peers : Drawing) (old new : View D G R) (was now : Shown) where
  -- the same where growth is told of each run
  runs_there : (gives : Giving D G) → Runs on.disks draws peers gives old new was now → RunsThere on.disks draws peers gives old new was now
  runs_there gives h = record {
    more = h.more;
    each = λ by run stands. let each = h.each by run stands in record { after = each.0; grown = h.grown; given = each.1; stands = each.2 };
    puts = h.puts;
  }

  -- nothing was given
  stops_nothing : (stop : Stop) (begins : Giving D G)
      → ((by : Keying G) (before : List Entry) (run : Run D) → begins by before run [] run) → new.server ≡ old.server → new.entries ≡ old.entries
      → ReportsThere stop was now [] → StopsThere on.disks draws peers begins stop old new was now
  stops_nothing stop begins nothing server entries reports = record {
    more = [];
    each = λ by run stands. (
      record {
        after = run;
        grown = entries ∙ sym (append-nil old.entries);
        given = nothing by old.entries run;
        stands = subst (λ server. IsServerOf on.disks draws server run.host) (sym server) stands.reflects.server;
      },
      reports,
    );
  }

  module _ (workers : ℕ) (block : BlockSoFar) where
    -- a line that may not stand there
    pub stops_faulty : (line : ScriptLine) → after_line block line ≡ None → new ≡ old → now ≡ was
        → StopsAtLine on draws peers workers block line Line old new was now
    stops_faulty line faulty same put = record {
      stops = stops_nothing Line (begun_at on workers block line) (λ by before run. inl (refl, refl)) (ap (λ (held : View D G R). held.server) same)
          (ap (λ (held : View D G R). held.entries) same) (refl, subst (λ now. Puts was now []) (sym put) (Puts-none was));
      faulty = λ is. faulty;
      other = λ is. absurd (cc is);
    }

    -- or for which there was no memory
    pub stops_short : (line : ScriptLine) → new ≡ old → now ≡ was → StopsAtLine on draws peers workers block line Memory old new was now
    stops_short line same put = record {
      stops = stops_nothing Memory (begun_at on workers block line) (λ by before run. inl (refl, refl)) (ap (λ (held : View D G R). held.server) same)
          (ap (λ (held : View D G R). held.entries) same) (subst (λ now. Puts was now []) (sym put) (Puts-none was));
      faulty = λ is. absurd (cc is);
      other = λ is. absurd (cc is);
    }

    -- one of these
    pub stops_either : (line : ScriptLine) (stop : Stop) → (stop ≡ Line) ⊎ (stop ≡ Memory) → (stop ≡ Line → after_line block line ≡ None) → new ≡ old → now ≡ was
        → StopsAtLine on draws peers workers block line stop old new was now
    stops_either line stop (inl is) faulty same put =
        subst (λ stop. StopsAtLine on draws peers workers block line stop old new was now) (sym is) (stops_faulty line (faulty is) same put)
    stops_either line stop (inr is) faulty same put =
        subst (λ stop. StopsAtLine on draws peers workers block line stop old new was now) (sym is) (stops_short line same put)

    -- a line gave nothing
    pub runs_none : (line : ScriptLine) (next : BlockSoFar) → after_line block line ≡ Some next
        → ((by : Keying G) (before : List Entry) (run : Run D) → GivesAt on by workers block line before run [] run) → new ≡ old → now ≡ was
        → RunsAt on draws peers workers block line next old new was now
    runs_none line next stands nothing same put = record {
      stands = stands;
      runs = record {
        more = [];
        each = λ by run there. record {
          after = run;
          grown = ap (λ (held : View D G R). held.entries) same ∙ sym (append-nil old.entries);
          given = nothing by old.entries run;
          stands = subst (λ held. Stands on.disks draws peers by held run) (sym same) there;
        };
        puts = subst (λ now. Puts was now []) (sym put) (Puts-none was);
      };
    }

  module _ (workers : ℕ) where
    -- a line outside a block, that begins and ends none
    pub runs_outside : (line : ScriptLine) (result : Result Unit Stop) → after_outside line ≡ Some None
        → RunsLine on draws peers line result old new was now → RunsLineAt on draws peers workers None line None result old new was now
    runs_outside line result stands ends =
        MatchResult-weaker result ends (λ _ run. record { stands = stands; runs = runs_there (given_at on workers None line) run })
        (λ stop h. record {
          stops = record {
            more = h.stops.more;
            each = λ by run there.
                let each = h.stops.each by run there in (
                  record { after = each.0; grown = h.stops.grown; given = inr (None, stands, each.1); stands = each.2 },
                  reports_there stop was now h.stops.more h.stops.reports,
                );
          };
          faulty = λ is. absurd (h.known is);
          other = λ is. subst (λ stop. ReportsUntil stop was now h.stops.more) is h.stops.reports;
        })

    -- the line that ends a block, which was run
    pub runs_block : (asks : List BlockAsk) (result : Result Unit Stop) → after_in_block asks lines.End ≡ Some None
        → RunsBlock on draws peers (by_block on workers asks) (begun_by_block on workers asks) result old new was now
        → RunsLineAt on draws peers workers (Some asks) lines.End None result old new was now
    runs_block asks result stands ends =
        MatchResult-weaker result ends (λ _ run. record { stands = stands; runs = run })
        (λ stop h. record {
          stops = record {
            more = h.stops.more;
            each = λ by run there.
                let each = h.stops.each by run there in (
                  record { after = each.0.after; grown = each.0.grown; given = inr (None, stands, each.0.given); stands = each.0.stands },
                  each.1,
                );
          };
          faulty = λ is. absurd (h.known is);
          other = h.other;
        })

    -- ---- texts

    module _ (text : List ℕ) (block next : BlockSoFar) where
      text_runs : (line : ScriptLine) → line_of text ≡ Some line → RunsAt on draws peers workers block line next old new was now
          → RunsThere on.disks draws peers (by_text on workers block text next) old new was now
      text_runs line is h = record {
        more = h.runs.more;
        each = λ by run there.
            let each = h.runs.each by run there in record {
              after = each.after;
              grown = each.grown;
              given = record { line = line; is = is; stands = h.stands; gives = each.given };
              stands = each.stands;
            };
        puts = h.runs.puts;
      }

      text_stops : (line : ScriptLine) → line_of text ≡ Some line → (stop : Stop) → StopsAtLine on draws peers workers block line stop old new was now
          → StopsThere on.disks draws peers (begun_by_text on workers block text) stop old new was now
      text_stops line is stop h = record {
        more = h.stops.more;
        each = λ by run there.
            let each = h.stops.each by run there in (
              record {
                after = each.0.after;
                grown = each.0.grown;
                given = ⊎_elim (λ (none : (h.stops.more ≡ []) × (each.0.after ≡ run)). inl none)
                    (λ (begins : (next : BlockSoFar) × (after_line block line ≡ Some next)
                    × BeginsAt on by workers block line old.entries run h.stops.more each.0.after).
                    inr (record { line = line; is = is; next = begins.0; stands = begins.1; begins = begins.2 })) each.0.given;
                stands = each.0.stands;
              },
              each.1,
            );
      }

      -- a text is such a line
      module _ (line : ScriptLine) (is : line_of text ≡ Some line) (result : Result Unit Stop)
          (ends : RunsLineAt on draws peers workers block line next result old new was now) where
        pub ok_by_text : OnOk result (RunsThere on.disks draws peers (by_text on workers block text next) old new was now)
        ok_by_text = MatchResult-weaker result ends (λ _ run. text_runs line is run) (λ stop h. tt)

        pub stops_by_text : IfErr result (λ stop. StopsThere on.disks draws peers (begun_by_text on workers block text) stop old new was now)
        stops_by_text = MatchResult-weaker result ends (λ _ run. tt) (λ stop h. text_stops line is stop h)

        faulty_at : (found : Result Unit Stop) → RunsLineAt on draws peers workers block line next found old new was now → found ≡ Err Line
            → after_text block text ≡ None
        faulty_at (Ok u) ends fails = absurd (cc fails)
        faulty_at (Err stop) ends fails = ap (option_and_then (after_line block)) is ∙ ends.faulty (cc fails)

        other_at : (found : Result Unit Stop) → RunsLineAt on draws peers workers block line next found old new was now → found ≡ Err Source → ⊥
        other_at (Ok u) ends fails = absurd (cc fails)
        other_at (Err stop) ends fails = ends.other (cc fails)

        pub other_by_text : result ≡ Err Source → ⊥
        other_by_text fails = other_at result ends fails

        pub faulty_by_text : result ≡ Err Line → after_text block text ≡ None
        faulty_by_text fails = faulty_at result ends fails

      -- or it is none
      pub no_line_stops : new ≡ old → now ≡ was → StopsThere on.disks draws peers (begun_by_text on workers block text) Line old new was now
      no_line_stops same put =
          stops_nothing Line (begun_by_text on workers block text) (λ by before run. inl (refl, refl)) (ap (λ (held : View D G R). held.server) same)
          (ap (λ (held : View D G R). held.entries) same) (refl, subst (λ now. Puts was now []) (sym put) (Puts-none was))

      pub no_line_faulty : line_of text ≡ None → after_text block text ≡ None
      no_line_faulty none = ap (option_and_then (after_line block)) none

-- what holds whatever the result
pub holds_ok : {T E : Type 0} {P : Type 0} (result : Result T E) → P → OnOk result P
holds_ok (Ok t) h = h
holds_ok (Err e) h = tt

-- the line that begins a block
pub begins_runs : {D G V R : Type 0} (on : Devices D G V) (draws : DrawGhosts R) (peers : Drawing) (held : View D G R) (out : Shown) (workers : ℕ)
    → held.members.mail ≡ [] → RunsAt on draws peers workers None lines.Together (Some []) held held out out
begins_runs on draws peers held out workers rest = record {
  stands = refl;
  runs = runs_there on draws peers held held out out (by_line on lines.Together)
      (Runs-nothing on draws peers held out lines.Together (λ run members. refl) rest);
}
