-- Moments of a history, and parts of it that begin with an opening.
use Rattle.std.specs.Prelude.{◌≡◌, true, List, [], ◌∷◌, ◌++◌}
use Rattle.group_model.specs.Answers.{is_open}
use Rattle.group_model.specs.declared.entries.Entry.{Entry}
use Rattle.group_steps.specs.Devices.{Devices, Keying}
use Rattle.group_steps.specs.Runs.{Run}
use Rattle.group_steps.specs.Steps.{AreRunSteps, IsHistory, IsRunStep}
use Rattle.group_steps.specs.TrueSteps.{AreTrueSteps}

module _ {D G V : Type 0} (on : Devices D G V) (by : Keying G) where
  -- the run after the first entries of a history
  pub record IsMoment (start : Run D) (entries : List Entry) (after : Run D) (front : List Entry) (mid : Run D) : Type 0 where
    pub later : List Entry
    pub is : entries ≡ front ++ later
    pub so_far : AreRunSteps on by [] start front mid
    pub goes_on : AreRunSteps on by front mid later after

  -- a moment up to which each opening again found the group that there was
  pub record IsTrueMoment (start : Run D) (entries : List Entry) (after : Run D) (front : List Entry) (mid : Run D) : Type 0 where
    pub moment : IsMoment start entries after front mid
    pub reads : AreTrueSteps on by [] start front mid

  -- a stretch of a history: an opening that was granted after some entries, with the run after it, and what came later, up to a moment
  pub record IsStretch (start : Run D) (entries : List Entry) (after : Run D) (before : List Entry) (opening : Entry) (next : Run D) (later : List Entry)
      (mid : Run D) : Type 0 where
    pub run : Run D
    pub rest : List Entry
    pub parts : entries ≡ (before ++ opening ∷ later) ++ rest
    pub so_far : AreRunSteps on by [] start before run
    pub step : IsRunStep on by before run opening next
    pub granted : is_open opening.answer ≡ true
    pub goes_on : AreRunSteps on by (before ++ opening ∷ []) next later mid
    pub ends : AreRunSteps on by (before ++ opening ∷ later) mid rest after

  -- Each moment of a history is the end of one.
  abbrev pub MomentsEndHistories : Type 0
  MomentsEndHistories =
      (start : Run D) (entries : List Entry) (after : Run D) (front : List Entry) (mid : Run D) → IsHistory on by start entries after
      → IsMoment start entries after front mid → IsHistory on by start front mid
