-- The steps of a server: what it answers to each request, what the outside did meanwhile, and the host after it. What a step does not name stays as it is.
use Rattle.std.specs.Prelude.{◌≡◌, ℕ, List, [], ◌∷◌}
use Rattle.gd_disk.specs.Moments.{Keeps}
use Rattle.gd_disk.specs.declared.disks.Disk.{Ghosts as DiskGhosts}
use Rattle.gd_edges.specs.declared.signers.Signer.{Ghosts as SignerGhosts}
use Rattle.group_model.specs.declared.entries.Answer.{Answer}
use Rattle.group_model.specs.declared.entries.Asked.{Asked}
use Rattle.group_model.specs.declared.entries.Asked.TheVariants.{AddRule, Batch, DeliverAll, Halt, Introduce, Leave, Reopen, Serve, Show}
use Rattle.group_model.specs.declared.entries.Entry.{Entry}
use Rattle.group_model.specs.declared.entries.Outside.{Outside}
use Rattle.server_steps.specs.Batches.{IsBatching}
use Rattle.server_steps.specs.Changes.{IsAddingRule, IsHalting, IsLeaving, IsNoDelivery, IsShowing}
use Rattle.server_steps.specs.Disks.{Counts}
use Rattle.server_steps.specs.Hosts.{Host}
use Rattle.server_steps.specs.Openings.{IsOpeningAgain}
use Rattle.server_steps.specs.Pulls.{IsAnswering, IsIntroducing}

-- One entry is a step of this kind. The disk stays as honest as it is, and a fault of it was counted exactly where the entry notes one.
pub record IsHostStep {D : Type 0} (d : DiskGhosts D) (step : Host D → Answer → Outside → Host D → Type 0) (host : Host D) (entry : Entry) (next : Host D)
    : Type 0 where
  pub answered : step host entry.answer entry.outside next
  pub keeps : Keeps d host.disk next.disk
  pub counts : Counts d entry.outside.disk_failed host.disk next.disk

module _ {D G : Type 0} (d : DiskGhosts D) (g : SignerGhosts G) (signer : G) (block : ℕ → List ℕ) where
  -- The answer of a server that was opened to a request that is made of it. It looks neither at members nor at what came before. `DeliverAll` is answered by it
  -- only where it has to be opened again.
  abbrev pub IsServed : Asked → Host D → Answer → Outside → Host D → Type 0
  IsServed (AddRule rule) = IsAddingRule rule
  IsServed (Introduce phase) = IsIntroducing phase
  IsServed (Serve m datagram) = λ host. IsAnswering g signer block host datagram
  IsServed (Leave m) = IsLeaving m
  IsServed Batch = IsBatching d g signer block
  IsServed Halt = IsHalting
  IsServed Reopen = IsOpeningAgain d g signer
  IsServed Show = IsShowing
  IsServed DeliverAll = IsNoDelivery
  IsServed asked = λ host answer outside next. ⊥

  -- one entry is the answer to its request
  abbrev pub IsServerStep : Host D → Entry → Host D → Type 0
  IsServerStep host entry next = IsHostStep d (IsServed entry.asked) host entry next

  -- each entry is, from the host that the ones before it left
  abbrev pub AreServed : Host D → List Entry → Host D → Type 0
  AreServed host [] after = after ≡ host
  AreServed host (entry ∷ entries) after = (next : Host D) × IsServerStep host entry next × AreServed next entries after
