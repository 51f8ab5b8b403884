-- What a history counts of the faults of its disk.
use Rattle.std.specs.Prelude.{◌≡◌, ◌⊎◌, ℕ, ◌+◌, ◌-◌, ◌^◌, ◌≤◌, List, count_by}
use Rattle.gd_disk.specs.Moments.{Keeps}
use Rattle.gd_disk.specs.declared.disks.Disk.{Ghosts as DiskGhosts}
use Rattle.group_model.specs.declared.entries.Entry.{Entry}
use Rattle.group_steps.specs.Devices.{Devices, Keying}
use Rattle.group_steps.specs.Runs.{Run}
use Rattle.group_steps.specs.Steps.{AreRunSteps}

-- how many of these entries note that a call on the disk failed
abbrev pub faults_in : List Entry → ℕ
faults_in entries = count_by (λ (entry : Entry). entry.outside.disk_failed) entries

-- The disk counted at least so many faults more, or its count is at its last value; without a fault the count stays.
pub record CountsFaults {D : Type 0} (d : DiskGhosts D) (n : ℕ) (old new : D) : Type 0 where
  pub counted : (d.faults old + n ≤ d.faults new) ⊎ (2 ^ 64 - 1 ≤ d.faults new)
  pub none : n ≡ 0 → d.faults new ≡ d.faults old

module _ {D G V : Type 0} (on : Devices D G V) (by : Keying G) where
  -- The disk counts at least one fault for each entry that notes one, and none where no entry does.
  abbrev pub FaultsAreCounted : Type 0
  FaultsAreCounted =
      (before : List Entry) (run : Run D) (entries : List Entry) (after : Run D)
      → AreRunSteps on by before run entries after → CountsFaults on.disks (faults_in entries) run.host.disk after.host.disk

  -- The disk is as honest as it was, and exposes its octets as before.
  abbrev pub DisksStayHonest : Type 0
  DisksStayHonest =
      (before : List Entry) (run : Run D) (entries : List Entry) (after : Run D)
      → AreRunSteps on by before run entries after → Keeps on.disks run.host.disk after.host.disk
