-- What follows for a stretch of steps of a server alone: it is one of a run, whoever the members are; they get what they are told.
use Rattle.std.specs.Prelude.{◌≡◌, ℕ, Bool, true, false, List, [], ◌∷◌, All}
use Rattle.gd_disk.specs.Moments.{Keeps}
use Rattle.gd_disk.specs.declared.disks.Disk.{Ghosts as DiskGhosts}
use Rattle.gd_edges.specs.declared.signers.Signer.{Ghosts as SignerGhosts}
use Rattle.group_model.specs.declared.entries.Asked.{Asked}
use Rattle.group_model.specs.declared.entries.Asked.TheVariants.{Introduce, Serve}
use Rattle.group_model.specs.declared.entries.Entry.{Entry}
use Rattle.server_steps.specs.Hosts.{Host}
use Rattle.server_steps.specs.Steps.{AreServed, IsServerStep}
use Rattle.member_steps.specs.Members.{Members}
use Rattle.group_steps.specs.Counts.{CountsFaults, faults_in}
use Rattle.group_steps.specs.Devices.{Devices, Keying}
use Rattle.group_steps.specs.Gets.{get}
use Rattle.group_steps.specs.Runs.{Run, run_of}
use Rattle.group_steps.specs.Steps.{AreRunSteps}

-- a request of pulls: an introduction, or a datagram
abbrev pub is_of_pulls : Asked → Bool
is_of_pulls (Introduce phase) = true
is_of_pulls (Serve m datagram) = true
is_of_pulls asked = false

-- none of these entries is of pulls, in which members have a part
abbrev pub WithoutPulls : List Entry → Type 0
WithoutPulls entries = All (λ (entry : Entry). is_of_pulls entry.asked ≡ false) entries

module _ {D G : Type 0} (d : DiskGhosts D) (g : SignerGhosts G) (signer : G) (block : ℕ → List ℕ) where
  -- each entry is a step of the server, and the members get what it tells them
  abbrev pub AreServedWith : Run D → List Entry → Run D → Type 0
  AreServedWith run [] after = after ≡ run
  AreServedWith run (entry ∷ entries) after =
      (next : Run D) × IsServerStep d g signer block run.host entry next.host × (next.members ≡ get entry.asked entry.answer run.members)
      × AreServedWith next entries after

  -- Whoever the members are, they get something by steps of the server.
  abbrev pub ServedReachMembers : Type 0
  ServedReachMembers =
      (host : Host D) (members : Members) (entries : List Entry) (after : Host D) → AreServed d g signer block host entries after
      → (later : Members) × AreServedWith (run_of host members) entries (run_of after later)

  -- The disk counts at least one fault for each entry that notes one, and none where no entry does. It stays as honest as it was.
  abbrev pub ServedCountFaults : Type 0
  ServedCountFaults =
      (host : Host D) (entries : List Entry) (after : Host D) → AreServed d g signer block host entries after
      → CountsFaults d (faults_in entries) host.disk after.disk × Keeps d host.disk after.disk

module _ {D G V : Type 0} (on : Devices D G V) (by : Keying G) where
  -- Where they are not of pulls, they are steps of a run, whatever came before.
  abbrev pub ServedAreRunSteps : Type 0
  ServedAreRunSteps =
      (before : List Entry) (run : Run D) (entries : List Entry) (after : Run D) → WithoutPulls entries
      → AreServedWith on.disks on.signers by.signer by.block run entries after → AreRunSteps on by before run entries after
