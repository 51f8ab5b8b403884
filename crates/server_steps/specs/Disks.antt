-- What a host has on its disk, and what its requests do to that.
use Rattle.std.specs.Prelude.{◌≡◌, ℕ, Bool, true, false, List}
use Rattle.gd_disk.specs.Disks.{Knows}
use Rattle.gd_disk.specs.Moments.{LeavesOnly, shown}
use Rattle.gd_disk.specs.declared.disks.Disk.{Ghosts}
use Rattle.group_terms.specs.Faults.{Rose}
use Rattle.gcks_core.specs.Stored.{IsFileOf, IsOnDisk}
use Rattle.group_model.specs.Servers.{Server}
use Rattle.group_records.specs.declared.heads.Head.{Head}
use Rattle.server_steps.specs.Hosts.{Host}

module _ {D : Type 0} (d : Ghosts D) where
  -- Where the disk is honest and exposes its octets, these are the journal of the group with the batches that it may have; and so is all that a crash leaves.
  pub record HasJournal (host : Host D) : Type 0 where
    pub file : IsOnDisk d host.disk host.head host.server
    pub crash : Knows (shown d host.disk) (λ file. (c : List ℕ) → d.may_leave host.disk c → IsFileOf host.head host.server c)

  -- All that a crash leaves at any moment from one disk to the next is the journal of the group, with the batches that this server's journal may have.
  abbrev pub LeavesJournal : D → Head → Server → D → Type 0
  LeavesJournal old head server new = Knows (shown d old) (λ file. LeavesOnly d old new (IsFileOf head server))

  -- A file comes to last: a crash leaves what the disk might have left before, and from some moment on the file alone.
  abbrev pub ComesToLast : List ℕ → D → D → Type 0
  ComesToLast file old new = (mid : D) × LeavesOnly d old mid (d.may_leave old) × LeavesOnly d mid new (λ c. c ≡ file)

  -- a fault of the disk was counted where it failed, and nowhere else
  abbrev pub Counts : Bool → D → D → Type 0
  Counts true old new = Rose (d.faults old) (d.faults new)
  Counts false old new = d.faults new ≡ d.faults old
