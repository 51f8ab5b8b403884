-- A run from its opening on.
use Rattle.std.proofs.Common.{◌≡◌, ℕ, true, false, List, [], ◌∷◌, ◌++◌, Option, None, sym, refl, ap, ◌∙◌, subst}
use Rattle.std.proofs.lemmas.Bool.{false≢true}
use Rattle.std.proofs.KnownBytes.{Consumes-nil}
use Rattle.gd_edges.specs.Shown.{Shown}
use Rattle.gd_edges.specs.declared.draws.Draws.{Ghosts as DrawGhosts}
use Rattle.group_model.specs.Answers.{ran_out}
use Rattle.group_model.specs.declared.entries.Entry.{Entry}
use Rattle.group_run.specs.Views.{View}
use Rattle.script_text.specs.Report.{entry_text, entries_text}
use Rattle.run_report.specs.declared.stops.Stop.{Stop}
use Rattle.run_report.specs.declared.stops.Stop.TheVariants.{Line, Source as SourceStop, Sink as SinkStop, Memory as MemoryStop, Unreported}
use Rattle.run_report.specs.declared.endings.Ending.TheVariants.{Whole}
use Rattle.console_run.specs.declared.open_blocks.OpenBlock.{OpenBlock}
use Rattle.console_run.specs.Causes.{CameFrom}
use Rattle.group_steps.specs.Devices.{Devices}
use Rattle.run_report.specs.Reports.{Puts}
use Rattle.console_run.specs.Private.Follows.{moment, IsOpened, TakesAndGoesOn, TakesAndStops, IsRunTo, IsRunUntil}
use Rattle.console_run.specs.Private.Reports.{EntryStops}
use Rattle.console_run.specs.Private.Runs.{Drawing, Start, Moment, IsSoFar, IsStoppedAt, Ends, StopsAtEnd, SourceFails, given_of}
use Rattle.console_run.proofs.SoFarLemmas.{first_so_far}
use Rattle.console_run.proofs.StopLemmas.{stopped_at_opening, opening_reported, no_memory_after_opening}

-- a stop in the report of an entry leaves the source's count
SourceFails-report : (stop : Stop) (was out : Shown) (entry : Entry) (faults : ℕ) → EntryStops stop was out entry → SourceFails stop faults faults
SourceFails-report Line was out entry faults h = absurd h
SourceFails-report SourceStop was out entry faults h = absurd h
SourceFails-report SinkStop was out entry faults h = refl
SourceFails-report MemoryStop was out entry faults h = refl
SourceFails-report Unreported was out entry faults h = refl

-- what is known of the last entry of a group is known where it is another value
pub of_held : {D G R : Type 0} (a b : View D G R) (P : Entry → Type 0) → a ≡ b
    → ((front : List Entry) (entry : Entry) → a.entries ≡ front ++ entry ∷ [] → P entry)
    → (front : List Entry) (entry : Entry) → b.entries ≡ front ++ entry ∷ [] → P entry
of_held {D = D} {G = G} {R = R} a b P same h front entry is = h front entry (ap (λ (held : View D G R). held.entries) same ∙ is)

-- before the source was asked
nothing_came : (had : Shown) → CameFrom had.octets had.octets (given_of [] false)
nothing_came had = record { consumed = Consumes-nil had.octets; octets = refl; whole = λ ended. absurd (false≢true ended) }

-- A group that was opened, with the line and the count of a run before its script. Then its last entry was reported, or the report broke off.
module _ {D G V R : Type 0} (on : Devices D G V) (draws : DrawGhosts R) (workers : ℕ) (start : Start D G) (held : View D G R) (block : Option OpenBlock)
    (line : List ℕ) (count : ℕ) (was out : Shown)
    (peers : Drawing) (same : start.was ≡ was) (opened : IsOpened on draws peers start held) (closed : block ≡ None) (none : line ≡ [])
    (zeroth : count ≡ 0) where
  -- a moment before the script
  same_moment : moment held None [] 0 out peers ≡ moment held block line count out peers
  same_moment = λ i. moment held (sym closed i) (sym none i) (sym zeroth i) out peers

  -- the report of the opening broke off
  pub run_stopped_at_opening : (had : Shown) (stop : Stop)
      → ((front : List Entry) (entry : Entry) → held.entries ≡ front ++ entry ∷ [] → EntryStops stop was out entry)
      → IsRunUntil on draws workers stop start had had (moment held block line count out peers)
  run_stopped_at_opening had stop stops =
      let first = opened.opens.first in
      let here : EntryStops stop start.was out first.entry = subst (λ was. EntryStops stop was out first.entry) (sym same) (stops [] first.entry first.alone) in
      record {
        given = given_of [] false;
        came = nothing_came had;
        source = SourceFails-report stop start.was out first.entry had.faults here;
        stopped = subst (IsStoppedAt on draws workers stop (given_of [] false) start) same_moment (stopped_at_opening on draws workers start held out peers opened stop here);
      }

  module _ (reported : (front : List Entry) (entry : Entry) → held.entries ≡ front ++ entry ∷ []
      → Puts was out (entry_text entry) × (ran_out entry.answer ≡ false)) where
    all_reported : Puts start.was out (entries_text held.entries)
    all_reported =
        let first = opened.opens.first in
        opening_reported on draws workers start held out peers opened
        (subst (λ was. Puts was out (entry_text first.entry)) (sym same) (reported [] first.entry first.alone).0)

    -- out of memory before going on
    pub run_out_of_memory : (had : Shown) → IsRunUntil on draws workers MemoryStop start had had (moment held block line count out peers)
    run_out_of_memory had = record {
      given = given_of [] false;
      came = nothing_came had;
      source = refl;
      stopped = subst (IsStoppedAt on draws workers MemoryStop (given_of [] false) start) same_moment
          (no_memory_after_opening on draws workers start held out peers opened all_reported);
    }

    so_far : IsSoFar on draws workers start [] (moment held block line count out peers)
    so_far = subst (IsSoFar on draws workers start []) same_moment (first_so_far on draws workers start held out peers opened all_reported)

    -- the script was taken up to where the run stopped
    pub run_stopped : (had left : Shown) (stop : Stop) (new : Moment D G R) → TakesAndStops on draws workers stop had left (moment held block line count out peers) new
        → IsRunUntil on draws workers stop start had left new
    run_stopped had left stop new h = record {
      given = given_of h.taken false;
      came = record { consumed = h.consumed; octets = h.small; whole = λ ended. absurd (false≢true ended) };
      source = h.source;
      stopped = h.stops start [] so_far;
    }

    module _ (had left : Shown) (middle : Moment D G R) (taken : TakesAndGoesOn on draws workers had left (moment held block line count out peers) middle) where
      all_so_far : IsSoFar on draws workers start taken.taken middle
      all_so_far = taken.goes start [] so_far

      came : CameFrom had.octets left.octets (given_of taken.taken true)
      came = record { consumed = taken.consumed; octets = all_so_far.small; whole = λ ended. taken.whole }

      -- it was taken whole, and what comes after its last line end was run
      pub run_whole : (new : Moment D G R) → Ends on draws workers middle new → IsRunTo on draws workers Whole start had left new
      run_whole new ends = record { given = given_of taken.taken true; came = came; source = taken.no_fault; reported = ends start taken.taken all_so_far }

      -- or the run stopped there
      pub run_stopped_at_end : (stop : Stop) (new : Moment D G R) → SourceFails stop had.faults left.faults → StopsAtEnd on draws workers stop middle new
          → IsRunUntil on draws workers stop start had left new
      run_stopped_at_end stop new source stops =
          record { given = given_of taken.taken true; came = came; source = source; stopped = stops start taken.taken all_so_far }
