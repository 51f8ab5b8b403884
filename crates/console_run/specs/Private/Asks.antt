-- How one line of a script is run, request by request.
use Rattle.std.specs.Prelude.{◌≡◌, ℕ, ◌∷◌, [], ◌++◌, MatchResult, Result, None, Some}
use Rattle.gd_edges.specs.Shown.{Shown}
use Rattle.gd_edges.specs.declared.draws.Draws.{Ghosts as DrawGhosts}
use Rattle.group_model.specs.declared.entries.Asked.{Asked}
use Rattle.group_model.specs.declared.entries.Entry.{Entry}
use Rattle.group_run.specs.Views.{View}
use Rattle.group_steps.specs.Runs.{Run}
use Rattle.script_text.specs.declared.lines.Line.{Line as ScriptLine}
use Rattle.run_report.specs.declared.stops.Stop.{Stop}
use Rattle.run_report.specs.declared.stops.Stop.TheVariants.{Line, Source}
use Rattle.group_steps.specs.Devices.{Devices, Keying}
use Rattle.member_steps.specs.Members.{Members}
use Rattle.console_run.specs.Blocks.{BlockSoFar, after_line}
use Rattle.console_run.specs.Lines.{IsGivenAfter}
use Rattle.console_run.specs.Private.Runs.{Drawing, Giving, Runs, RunsThere, Stands, Stops, StopsThere, begun_at, begun_by_line, by_line, given_at}

module _ {D G V R : Type 0} (on : Devices D G V) (draws : DrawGhosts R) (peers : Drawing) where
  -- One entry was added, which answers a request once the members are these. Whatever run it was before, that is an answer of it, and it is the run after that.
  pub record Answers (acted : Members) (request : Asked) (old new : View D G R) : Type 0 where
    pub entry : Entry
    pub added : new.entries ≡ old.entries ++ entry ∷ []
    pub asked : entry.asked ≡ request
    pub each : (by : Keying G) (run : Run D) → Stands on.disks draws peers by old run
        → (next : Run D) × IsGivenAfter on by acted old.entries run entry next × Stands on.disks draws peers by new next

  -- the run stopped in a line, which is one of the grammar
  pub record StopsIn (line : ScriptLine) (stop : Stop) (old new : View D G R) (was now : Shown) : Type 0 where
    pub stops : Stops on.disks draws peers (begun_by_line on line) stop old new was now
    pub known : stop ≡ Line → ⊥

  -- a line of the grammar was run, or the run stopped in it
  abbrev pub RunsLine : ScriptLine → Result (Unit {0}) Stop → View D G R → View D G R → Shown → Shown → Type 0
  RunsLine line result old new was now =
      MatchResult result (λ done. Runs on.disks draws peers (by_line on line) old new was now) (λ stop. StopsIn line stop old new was now)

  -- a line was run where it stands, after which this block is open
  pub record RunsAt (workers : ℕ) (block : BlockSoFar) (line : ScriptLine) (next : BlockSoFar) (old new : View D G R) (was now : Shown) : Type 0 where
    pub stands : after_line block line ≡ Some next
    pub runs : RunsThere on.disks draws peers (given_at on workers block line) old new was now

  -- or the run stopped in it
  pub record StopsAtLine (workers : ℕ) (block : BlockSoFar) (line : ScriptLine) (stop : Stop) (old new : View D G R) (was now : Shown) : Type 0 where
    pub stops : StopsThere on.disks draws peers (begun_at on workers block line) stop old new was now
    pub faulty : stop ≡ Line → after_line block line ≡ None
    pub other : stop ≡ Source → ⊥

  -- one of these
  abbrev pub RunsLineAt : ℕ → BlockSoFar → ScriptLine → BlockSoFar → Result (Unit {0}) Stop → View D G R → View D G R → Shown → Shown → Type 0
  RunsLineAt workers block line next result old new was now =
      MatchResult result (λ done. RunsAt workers block line next old new was now) (λ stop. StopsAtLine workers block line stop old new was now)

  -- the same of what is given so, which is never faulty
  pub record StopsKnown (begins : Giving D G) (stop : Stop) (old new : View D G R) (was now : Shown) : Type 0 where
    pub stops : StopsThere on.disks draws peers begins stop old new was now
    pub known : stop ≡ Line → ⊥
    pub other : stop ≡ Source → ⊥

  abbrev pub RunsBlock : Giving D G → Giving D G → Result (Unit {0}) Stop → View D G R → View D G R → Shown → Shown → Type 0
  RunsBlock gives begins result old new was now =
      MatchResult result (λ done. RunsThere on.disks draws peers gives old new was now) (λ stop. StopsKnown begins stop old new was now)
