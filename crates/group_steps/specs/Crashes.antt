-- What a crash leaves of a group at any moment of a history.
use Rattle.std.specs.Prelude.{◌≡◌, ◌⊎◌, ℕ, true, List, ◌∷◌, ◌++◌}
use Rattle.gd_disk.specs.Disks.{Knows}
use Rattle.gd_disk.specs.Moments.{LeavesOnly, shown}
use Rattle.group_model.specs.Answers.{is_open, opens}
use Rattle.group_model.specs.Servers.{in_doubt}
use Rattle.group_model.specs.declared.entries.Entry.{Entry}
use Rattle.gcks_core.specs.Stored.{IsFileOf}
use Rattle.server_steps.specs.Batches.{made_next}
use Rattle.server_steps.specs.Disks.{HasJournal}
use Rattle.group_steps.specs.Devices.{Devices, Keying}
use Rattle.group_steps.specs.Runs.{Run}
use Rattle.group_steps.specs.ServedCrashes.{HasAtLeast, IsToWrite}
use Rattle.group_steps.specs.Steps.{AreRunSteps, IsRunStep}

module _ {D G V : Type 0} (on : Devices D G V) (by : Keying G) where
  -- An image is the journal of the group that a run has, with the batches that it may have at a moment of its history: after some of the
  -- entries, or while the batch is written that the next entry asks for.
  pub record IsOfMoment (before : List Entry) (run : Run D) (entries : List Entry) (after : Run D) (c : List ℕ) : Type 0 where
    pub front : List Entry
    pub later : List Entry
    pub is : entries ≡ front ++ later
    pub mid : Run D
    pub so_far : AreRunSteps on by before run front mid
    pub goes_on : AreRunSteps on by (before ++ front) mid later after
    pub image : IsFileOf run.host.head mid.host.server c
        ⊎ (IsToWrite mid.host later × IsFileOf run.host.head (in_doubt mid.host.server (made_next on.disks on.signers by.signer by.block mid.host)) c)

  -- A group that was made, or first opened, has a journal.
  abbrev pub OpenedHaveJournals : Type 0
  OpenedHaveJournals =
      (before : List Entry) (start : Run D) (entry : Entry) (run : Run D)
      → opens entry.asked ≡ true → is_open entry.answer ≡ true
      → IsRunStep on by before start entry run → HasJournal on.disks run.host

  -- what a history does to the journal of a group that was opened before
  pub record LeavesMoments (before : List Entry) (run : Run D) (entries : List Entry) (after : Run D) : Type 0 where
    pub journal : HasJournal on.disks after.host
    pub head : Knows (shown on.disks run.host.disk) (λ file. after.host.head ≡ run.host.head)
    pub moments : Knows (shown on.disks run.host.disk) (λ file. LeavesOnly on.disks run.host.disk after.host.disk (IsOfMoment before run entries after))
    pub kept : Knows (shown on.disks run.host.disk) (λ file. LeavesOnly on.disks run.host.disk after.host.disk (HasAtLeast run.host))

  -- Where the disk is honest and exposes its octets, a crash at any moment of a history leaves the group as it was at that moment. Batches
  -- that were stored before are in every image that is left since.
  abbrev pub CrashesLeaveMoments : Type 0
  CrashesLeaveMoments =
      (first : Entry) (before : List Entry) (run : Run D) (entries : List Entry) (after : Run D)
      → AreRunSteps on by (first ∷ before) run entries after → HasJournal on.disks run.host
      → LeavesMoments (first ∷ before) run entries after
