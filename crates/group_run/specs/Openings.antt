-- What comes of an opening.
use Rattle.std.specs.Prelude.{◌≡◌, ◌⊎◌, List, [], ◌∷◌, Option}
use Rattle.gd_disk.specs.declared.disks.Disk.{Ghosts as DiskGhosts}
use Rattle.gd_edges.specs.declared.draws.Draws.{Ghosts as DrawGhosts}
use Rattle.group_model.specs.declared.entries.Answer.{Answer}
use Rattle.group_model.specs.declared.entries.Answer.TheVariants.{Opened, Refused}
use Rattle.group_model.specs.declared.entries.Asked.{Asked}
use Rattle.group_model.specs.declared.entries.Entry.{Entry}
use Rattle.group_model.specs.declared.entries.GroupSeen.{GroupSeen}
use Rattle.group_model.specs.declared.entries.Outside.{Outside}
use Rattle.group_model.specs.declared.entries.PushPair.{PushPair}
use Rattle.group_model.specs.declared.entries.Refusal.{Refusal}
use Rattle.server_steps.specs.Hosts.{Host}
use Rattle.group_steps.specs.Runs.{Run}
use Rattle.group_steps.specs.Steps.{IsOpening, IsStepBy}
use Rattle.group_run.specs.Reflects.{Reflects}
use Rattle.group_run.specs.Views.{View}

-- the history has the one entry of the opening, by such a step from this run; the group is open, and the run after the step is reflected
pub record Opens {D G R : Type 0} (d : DiskGhosts D) (draws : DrawGhosts R) (step : Host D → Answer → Outside → Host D → Type 0) (request : Asked)
    (start : Run D) (held : View D G R) : Type 0 where
  pub entry : Entry
  pub alone : held.entries ≡ entry ∷ []
  pub asked : entry.asked ≡ request
  pub seen : GroupSeen
  pub resent : Option PushPair
  pub is_open : entry.answer ≡ Opened seen resent
  pub after : Run D
  pub stepped : IsStepBy d (IsOpening [] step) start entry after
  pub reflects : Reflects d draws held after

-- the opening was refused, by such a step that leaves this disk
pub record IsRefusedBy {D : Type 0} (d : DiskGhosts D) (step : Host D → Answer → Outside → Host D → Type 0) (request : Asked) (start : Run D)
    (entries : List Entry) (disk : D) : Type 0 where
  pub entry : Entry
  pub alone : entries ≡ entry ∷ []
  pub asked : entry.asked ≡ request
  pub why : Refusal
  pub refused : entry.answer ≡ Refused why
  pub after : Run D
  pub stepped : IsStepBy d (IsOpening [] step) start entry after
  pub left : after.host.disk ≡ disk

-- no memory was left before anything was done: there is no entry, and the disk is as it was
pub record IsUntouched {D : Type 0} (start : Run D) (entries : List Entry) (disk : D) : Type 0 where
  pub nothing : entries ≡ []
  pub left : disk ≡ start.host.disk

-- an opening failed: it was refused, or nothing was done
abbrev pub FailsToOpen : {D : Type 0} → DiskGhosts D → (Host D → Answer → Outside → Host D → Type 0) → Asked → Run D → List Entry → D → Type 0
FailsToOpen d step request start entries disk = IsRefusedBy d step request start entries disk ⊎ IsUntouched start entries disk
