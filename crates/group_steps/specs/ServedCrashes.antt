-- What a crash leaves of a group at any moment while its server serves one request after the other, whoever its members are.
use Rattle.std.specs.Prelude.{◌≡◌, ◌⊎◌, ℕ, List, [], ◌∷◌, ◌++◌, None}
use Rattle.gd_disk.specs.Disks.{Knows}
use Rattle.gd_disk.specs.Moments.{LeavesOnly, shown}
use Rattle.gd_disk.specs.declared.disks.Disk.{Ghosts as DiskGhosts}
use Rattle.gd_edges.specs.declared.signers.Signer.{Ghosts as SignerGhosts}
use Rattle.group_values.specs.Values.{Made}
use Rattle.group_model.specs.Servers.{in_doubt, refusal_to_batch}
use Rattle.group_model.specs.declared.entries.Asked.TheVariants.{Batch}
use Rattle.group_model.specs.declared.entries.Entry.{Entry}
use Rattle.tree_store.specs.Groups.{IsGroup}
use Rattle.gcks_core.specs.Stored.{IsFileOf, stored_list}
use Rattle.server_steps.specs.Batches.{made_next}
use Rattle.server_steps.specs.Disks.{HasJournal}
use Rattle.server_steps.specs.Hosts.{Host}
use Rattle.server_steps.specs.Steps.{AreServed}

module _ {D : Type 0} where
  -- the next entry asks for a batch, which the server has no reason to refuse
  abbrev pub IsToWrite : Host D → List Entry → Type 0
  IsToWrite host [] = ⊥
  IsToWrite host (entry ∷ later) = (entry.asked ≡ Batch) × (refusal_to_batch host.server ≡ None)

  -- an image is the journal of the group, with the batches that a host has, and maybe later ones
  abbrev pub HasAtLeast : Host D → List ℕ → Type 0
  HasAtLeast host c = (later : List Made) × IsGroup c host.head (stored_list host.head.depth (host.server.list ++ later))

module _ {D G : Type 0} (d : DiskGhosts D) (g : SignerGhosts G) (signer : G) (block : ℕ → List ℕ) where
  -- An image is the journal of the group of a host, with the batches that it may have after some of the entries, or while the batch is written that the next
  -- entry asks for.
  pub record IsServedMoment (host : Host D) (entries : List Entry) (after : Host D) (c : List ℕ) : Type 0 where
    pub front : List Entry
    pub later : List Entry
    pub is : entries ≡ front ++ later
    pub mid : Host D
    pub so_far : AreServed d g signer block host front mid
    pub goes_on : AreServed d g signer block mid later after
    pub image : IsFileOf host.head mid.server c ⊎ (IsToWrite mid later × IsFileOf host.head (in_doubt mid.server (made_next d g signer block mid)) c)

  -- what entries do to the journal of the group
  pub record LeavesServed (host : Host D) (entries : List Entry) (after : Host D) : Type 0 where
    pub journal : HasJournal d after
    pub head : Knows (shown d host.disk) (λ file. after.head ≡ host.head)
    pub moments : Knows (shown d host.disk) (λ file. LeavesOnly d host.disk after.disk (IsServedMoment host entries after))
    pub kept : Knows (shown d host.disk) (λ file. LeavesOnly d host.disk after.disk (HasAtLeast host))

  -- Where the disk is honest and exposes its octets, a crash at any moment leaves the group after some of the entries, or with the batch that is being written.
  -- No batch that was stored before is lost.
  abbrev pub CrashesLeaveServed : Type 0
  CrashesLeaveServed = (host : Host D) (entries : List Entry) (after : Host D) → AreServed d g signer block host entries after → HasJournal d host
      → LeavesServed host entries after
