-- A block that was run on a group, and reported.
use Rattle.std.proofs.Common.{◌≡◌, ◌∙◌, ◌⊎◌, ℕ, ◌+◌, ◌<◌, List, [], ◌∷◌, ◌++◌, Result, Ok, Err, drop, get_or, length, take, sym, refl, ap, subst, inl, inr, ⊎_elim}
use Rattle.std.specs.Prelude.{OnErr, OnOk}
use Rattle.std.proofs.Math.Seq.{drop-append_seam}
use Rattle.gd_edges.specs.Shown.{Shown}
use Rattle.gd_edges.specs.declared.draws.Draws.{Ghosts as DrawGhosts}
use Rattle.group_model.specs.Answers.{any_ran_out}
use Rattle.group_model.specs.declared.entries.Entry.{Entry}
use Rattle.group_terms.specs.declared.memory.NoMemory.{NoMemory}
use Rattle.group_run.specs.Blocks.{IsBlock, Point, StopsShort}
use Rattle.group_run.specs.Places.{IsAt, Reaches, ReachesServed}
use Rattle.group_run.specs.Views.{View}
use Rattle.group_steps.specs.Devices.{Devices, Keying}
use Rattle.group_steps.specs.Runs.{Run}
use Rattle.group_steps.specs.Steps.{AreRunSteps}
use Rattle.member_steps.specs.Acts.{Acts, Ignores}
use Rattle.register_workers.specs.declared.lines.BlockAsk.{BlockAsk}
use Rattle.std.proofs.lemmas.List.{take-append-drop, take_more}
use Rattle.run_report.specs.Ends.{TextBreaksOff}
use Rattle.run_report.specs.Reports.{BreaksOff, Puts}
use Rattle.run_report.proofs.KnownLemmas.{ReportBreaksOff-last}
use Rattle.run_report.specs.declared.endings.Ending.{Ending}
use Rattle.run_report.specs.declared.endings.Ending.TheVariants.{Memory as MemoryEnding, Sink as SinkEnding}
use Rattle.run_report.specs.declared.stops.Stop.{Stop}
use Rattle.run_report.specs.declared.stops.Stop.TheVariants.{Line, Memory, Sink, Source, Unreported}
use Rattle.script_text.specs.Report.{entries_text, entry_text}
use Rattle.server_steps.specs.Reflects.{IsServerOf}
use Rattle.server_steps.specs.Serves.{GoesOn}
use Rattle.console_run.specs.Breaks.{AreOfBlock, LineBreaksOff}
use Rattle.console_run.specs.Lines.{point}
use Rattle.console_run.specs.Private.Asks.{StopsKnown}
use Rattle.console_run.specs.Private.Reports.{AreReportedUntil, EntriesStop}
use Rattle.console_run.specs.Private.Runs.{Drawing, Leads, ReportsThere, RunsThere, Stands, begun_by_block, by_block}
use Rattle.console_run.proofs.ActLemmas.{ignoring_acts}
use Rattle.console_run.proofs.AskLemmas.{keys_of, same_keys}
use Rattle.console_run.proofs.BlockStepLemmas.{block_came, block_rests, short_gave}

-- where nothing was given nothing is untold
none_untold : (told untold : List Entry) → told ++ untold ≡ [] → untold ≡ []
none_untold [] untold none = none
none_untold (entry ∷ told) untold none = absurd (cc none)

-- a report of a block's entries broke off in one of them
block_breaks : (ending : Ending) (was now : Shown) (more : List Entry) → (more ≡ []) ⊎ AreOfBlock more → AreReportedUntil ending was now more
    → LineBreaksOff ending was now more
block_breaks ending was now more marked h = record {
  told = h.told;
  untold = h.untold;
  parts = h.parts;
  breaks = h.breaks;
  block = ⊎_elim (λ (none : more ≡ []). inl (none_untold h.told h.untold (sym h.parts ∙ none))) (λ (block : AreOfBlock more). inr block) marked;
}

reports_block : (stop : Stop) (was now : Shown) (more : List Entry) → (more ≡ []) ⊎ AreOfBlock more → EntriesStop stop was now more
    → ReportsThere stop was now more
reports_block Line was now more marked h = absurd h
reports_block Source was now more marked h = absurd h
reports_block Sink was now more marked h = block_breaks SinkEnding was now more marked h
reports_block Memory was now more marked h = absurd h
reports_block Unreported was now more marked h = block_breaks MemoryEnding was now more marked h

-- one entry and those before and after it
split_at : (entries : List Entry) (place : ℕ) (entry : Entry) → place < length entries → entry ≡ get_or entries place entry
    → entries ≡ (take place entries ++ entry ∷ []) ++ drop (place + 1) entries
split_at entries place entry within is =
    sym (take-append-drop (place + 1) entries)
    ∙ ap (λ front. front ++ drop (place + 1) entries) (take_more entries place entry within ∙ ap (λ one. take place entries ++ one ∷ []) (sym is))

-- the report of entries broke off at one of them
pub entries_stop : (entries : List Entry) (place : ℕ) (entry : Entry) (was seen now : Shown) (stop : Stop) → place < length entries
    → entry ≡ get_or entries place entry → Puts was seen (entries_text (take place entries)) → TextBreaksOff stop seen now (entry_text entry)
    → EntriesStop stop was now entries
entries_stop entries place entry was seen now stop within is puts breaks = by_stop stop breaks
  where
    until : (ending : Ending) → BreaksOff ending seen now (entry_text entry) → AreReportedUntil ending was now entries
    until ending broke = record {
      told = take place entries ++ entry ∷ [];
      untold = drop (place + 1) entries;
      parts = split_at entries place entry within is;
      breaks = ReportBreaksOff-last ending was seen now (take place entries) entry puts broke;
    }

    by_stop : (stop : Stop) → TextBreaksOff stop seen now (entry_text entry) → EntriesStop stop was now entries
    by_stop Line h = absurd h
    by_stop Source h = absurd h
    by_stop Sink h = until SinkEnding h
    by_stop Memory h = absurd h
    by_stop Unreported h = until MemoryEnding h

no_line : (stop : Stop) (was now : Shown) (more : List Entry) → EntriesStop stop was now more → stop ≡ Line → ⊥
no_line stop was now more h same = subst (λ stop. EntriesStop stop was now more) same h

module _ {D G V R : Type 0} (on : Devices D G V) (draws : DrawGhosts R) (peers : Drawing) (workers : ℕ) (asks : List BlockAsk) (old new : View D G R)
    (rest : old.members.mail ≡ []) (goes : GoesOn draws old.server new.server) (was now : Shown) where
  -- what the history got
  abbrev pub more : List Entry
  more = drop (length old.entries) new.entries

  -- the place before it, in a run
  abbrev here : Run D → Point D
  here run = point old.entries run old.members

  at_here : (by : Keying G) (run : Run D) → Stands on.disks draws peers by old run → IsAt on.disks draws old (here run)
  at_here by run stands = record { served = record { entries = refl; server = stands.reflects.server }; present = refl }

  acted : (by : Keying G) (run : Run D) → Stands on.disks draws peers by old run → Acts by.members_block by.group run.members old.members
  acted by run stands = let h = stands.reflects.members in ignoring_acts by.members_block by.group h.0 run.members old.members h.1

  grown_is : (next : Point D) (got : List Entry) → new.entries ≡ next.entries → next.entries ≡ old.entries ++ got → more ≡ got
  grown_is next got same grown = ap (λ entries. drop (length old.entries) entries) (same ∙ grown) ∙ drop-append_seam old.entries got

  -- it was run
  abbrev pub Ran : Type 0
  Ran = Reaches on.disks draws (IsBlock on.disks on.signers (keys_of draws peers old) workers asks) old new

  abbrev pub Stopped : Type 0
  Stopped = ReachesServed on.disks draws (StopsShort on.disks on.signers (keys_of draws peers old) workers asks) old new

  pub block_runs : Ran → Puts was now (entries_text more) → RunsThere on.disks draws peers (by_block on workers asks) old new was now
  block_runs reaches puts = record {
    more = more;
    each = λ by run stands.
        let reached = reaches (here run) (at_here by run stands) in
        let next = reached.0 in
        let block = subst (λ (by : Keying G). IsBlock on.disks on.signers by workers asks (here run) next)
        (same_keys draws peers old on.disks by run stands) reached.1 in
        let came = block_came on by workers asks (here run) (acted by run stands) next block in
        let all = grown_is next came.more reached.2.served.entries came.grown in
        let grown = came.grown ∙ ap (λ got. old.entries ++ got) (sym all) in
        record {
          after = next.run;
          grown = reached.2.served.entries ∙ grown;
          given = record {
            rest = old.members;
            at_rest = (stands.reflects.members, rest);
            new = next;
            block = block;
            entries = grown;
            is_after = refl;
            enough_memory = ap any_ran_out all ∙ came.enough;
          };
          stands = record {
            reflects = record {
              server = reached.2.served.server;
              members = subst (Ignores next.run.members) reached.2.present (block_rests on by workers asks (here run) next block);
            };
            signer = goes.signer ∙ stands.signer;
            blocks = λ k. goes.blocks k ∙ stands.blocks k;
            members_blocks = stands.members_blocks;
            group = stands.group;
          };
        };
    puts = puts;
  }

  -- or it began
  record Begun (by : Keying G) (run : Run D) : Type 0 where
    leads : Leads (λ (after : Run D). IsServerOf on.disks draws new.server after.host) (begun_by_block on workers asks) by run more old new
    marked : (more ≡ []) ⊎ AreOfBlock more

  -- where memory ran out
  begun_err : Stopped → (by : Keying G) (run : Run D) → Stands on.disks draws peers by old run → Begun by run
  begun_err reaches by run stands =
      let reached = reaches (here run) (at_here by run stands) in
      let next = reached.0 in
      let served = reached.2 in
      let short = subst (λ (by : Keying G). StopsShort on.disks on.signers by workers asks (here run) next) (same_keys draws peers old on.disks by run stands) reached.1
      in
      let gave = short_gave on by workers asks (here run) (acted by run stands) next short in
      let all = grown_is next gave.more served.entries gave.grown in
      let grown = gave.grown ∙ ap (λ got. old.entries ++ got) (sym all) in
      record {
        leads = record {
          after = gave.last;
          grown = served.entries ∙ grown;
          given = record {
            rest = old.members;
            at_rest = (stands.reflects.members, rest);
            new = next;
            block = inl (short, gave.host);
            entries = grown;
            steps = subst (λ got. AreRunSteps on by old.entries run got gave.last) (sym all) gave.steps;
          };
          stands = subst (λ host. IsServerOf on.disks draws new.server host) gave.host served.server;
        };
        marked = ⊎_elim (λ (none : gave.more ≡ []). inl (all ∙ none)) (λ (block : AreOfBlock gave.more). inr (subst AreOfBlock (sym all) block)) gave.marked;
      }

  -- where all was done
  begun_ok : Ran → (by : Keying G) (run : Run D) → Stands on.disks draws peers by old run → Begun by run
  begun_ok reaches by run stands =
      let reached = reaches (here run) (at_here by run stands) in
      let next = reached.0 in
      let block = subst (λ (by : Keying G). IsBlock on.disks on.signers by workers asks (here run) next) (same_keys draws peers old on.disks by run stands) reached.1
      in
      let came = block_came on by workers asks (here run) (acted by run stands) next block in
      let all = grown_is next came.more reached.2.served.entries came.grown in
      let grown = came.grown ∙ ap (λ got. old.entries ++ got) (sym all) in
      record {
        leads = record {
          after = next.run;
          grown = reached.2.served.entries ∙ grown;
          given = record {
            rest = old.members;
            at_rest = (stands.reflects.members, rest);
            new = next;
            block = inr (block, refl);
            entries = grown;
            steps = subst (λ got. AreRunSteps on by old.entries run got next.run) (sym all) came.steps;
          };
          stands = reached.2.served.server;
        };
        marked = inr (subst AreOfBlock (sym all) came.marked);
      }

  begun_by : (result : Result Unit NoMemory) → OnOk result Ran → OnErr result Stopped → (by : Keying G) (run : Run D)
      → Stands on.disks draws peers by old run → Begun by run
  begun_by (Ok u) ok err = begun_ok ok
  begun_by (Err e) ok err = begun_err err

  -- the report broke off
  pub block_untold : (result : Result Unit NoMemory) → OnOk result Ran → OnErr result Stopped → (stop : Stop) → EntriesStop stop was now more
      → StopsKnown on draws peers (begun_by_block on workers asks) stop old new was now
  block_untold result ok err stop stops = record {
    stops = record {
      more = more;
      each = λ by run stands.
          let begun = begun_by result ok err by run stands in (begun.leads, reports_block stop was now more begun.marked stops);
    };
    known = no_line stop was now more stops;
    other = λ same. subst (λ stop. EntriesStop stop was now more) same stops;
  }

  -- memory ran out, and all was reported
  pub block_stops : Stopped → Puts was now (entries_text more) → StopsKnown on draws peers (begun_by_block on workers asks) Memory old new was now
  block_stops err puts = record {
    stops = record { more = more; each = λ by run stands. ((begun_err err by run stands).leads, puts) };
    known = λ same. cc;
    other = λ same. cc;
  }
