-- Steps whose openings read true: a group that is opened again is the one that there was.
use Rattle.std.specs.Prelude.{◌≡◌, true, List, [], ◌∷◌, ◌++◌}
use Rattle.group_terms.specs.declared.changes.Change.{Change}
use Rattle.group_values.specs.Values.{batches_made}
use Rattle.group_model.specs.Answers.{BeginsWithOpening, is_open}
use Rattle.group_model.specs.Growth.{Leaves}
use Rattle.group_model.specs.declared.entries.Entry.{Entry}
use Rattle.group_steps.specs.Chains.{Along}
use Rattle.group_steps.specs.Devices.{Devices, Keying}
use Rattle.group_steps.specs.Laws.{IsSure, is_opened_again}
use Rattle.server_steps.specs.Openings.{IsSame}
use Rattle.group_steps.specs.Runs.{Outset, Run, no_run}
use Rattle.group_steps.specs.Steps.{AreRunSteps, IsRunStep}

module _ {D : Type 0} where
  -- the batches that made the epochs of a run
  abbrev pub batches_in : Run D → List (List Change)
  batches_in run = batches_made run.host.server.list

  -- where the group was opened again, its journal had the same head, and the batches that it may have
  abbrev pub ReadsTrue : Run D → Entry → Run D → Type 0
  ReadsTrue run entry next = is_opened_again entry ≡ true → IsSame run.host (record { head = next.host.head; list = next.host.server.list })

module _ {D G V : Type 0} (on : Devices D G V) (by : Keying G) where
  -- a step that reads true, if it opens the group again
  abbrev pub IsTrueStep : List Entry → Run D → Entry → Run D → Type 0
  IsTrueStep before run entry next = IsRunStep on by before run entry next × ReadsTrue run entry next

  -- such steps, one after the other
  abbrev pub AreTrueSteps : List Entry → Run D → List Entry → Run D → Type 0
  AreTrueSteps = Along IsTrueStep

  -- a part of a history, from an opening that was granted up to a moment; each opening after that one reads true
  pub record IsTrueSince (start : Run D) (opening : Entry) (later : List Entry) (mid : Run D) : Type 0 where
    pub before : List Entry
    pub begins : BeginsWithOpening (before ++ opening ∷ later)
    pub run : Run D
    pub so_far : AreRunSteps on by [] start before run
    pub next : Run D
    pub step : IsRunStep on by before run opening next
    pub granted : is_open opening.answer ≡ true
    pub goes_on : AreTrueSteps (before ++ opening ∷ []) next later mid

  -- ---- the laws

  -- Where the disk is honest and exposes its octets, or nothing was opened again, all steps read true.
  abbrev pub SureStepsAreTrue : Type 0
  SureStepsAreTrue =
      (before : List Entry) (run : Run D) (entries : List Entry) (after : Run D) → AreRunSteps on by before run entries after
      → IsSure on.disks run.host.disk entries → AreTrueSteps before run entries after

  -- From an opening on, as long as later ones read true, the group grows by what is sent and told, from the batches that it found.
  abbrev pub TrueStepsGrow : Type 0
  TrueStepsGrow =
      (outset : Outset D) (opening : Entry) (later : List Entry) (mid : Run D)
      → IsTrueSince (no_run outset) opening later mid → Leaves mid.host.server.depth (opening ∷ later) (batches_in mid)
