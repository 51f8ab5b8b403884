-- What follows of the steps of a run, said of every history.
use Rattle.std.specs.Prelude.{◌≡◌, ◌⊎◌, ◌&&◌, Bool, true, false, List, IsSome}
use Rattle.std.specs.List.{list_any}
use Rattle.gd_disk.specs.Moments.{shown}
use Rattle.gd_disk.specs.declared.disks.Disk.{Ghosts as DiskGhosts}
use Rattle.group_values.specs.Values.{batches_made}
use Rattle.group_model.specs.Answers.{is_open}
use Rattle.group_model.specs.Places.{IsValid}
use Rattle.group_model.specs.declared.entries.Asked.{Asked}
use Rattle.group_model.specs.declared.entries.Asked.TheVariants.{Reopen}
use Rattle.group_model.specs.declared.entries.Entry.{Entry}
use Rattle.group_steps.specs.Devices.{Devices, Keying}
use Rattle.group_steps.specs.Runs.{Outset, Run, no_run}
use Rattle.group_steps.specs.Steps.{IsHistory}

-- whether a request is that to open again
abbrev pub asks_again : Asked → Bool
asks_again Reopen = true
asks_again asked = false

-- whether a group was opened again
abbrev pub is_opened_again : Entry → Bool
is_opened_again entry = asks_again entry.asked && is_open entry.answer

-- Each opening found the group that there was: since the disk is honest and exposes its octets, or since it was not opened again.
abbrev pub IsSure : {D : Type 0} → DiskGhosts D → D → List Entry → Type 0
IsSure d disk entries = IsSome (shown d disk) ⊎ (list_any is_opened_again entries ≡ false)

module _ {D G V : Type 0} (on : Devices D G V) (by : Keying G) where
  -- The batches that a history leaves are a valid list.
  abbrev pub LeavesValidList : Type 0
  LeavesValidList =
      (outset : Outset D) (entries : List Entry) (after : Run D)
      → IsHistory on by (no_run outset) entries after
      → IsValid after.host.server.depth (batches_made after.host.server.list)
