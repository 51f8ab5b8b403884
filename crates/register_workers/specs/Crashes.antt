-- What a crash leaves of a group at any moment while workers run a block.
use Rattle.std.specs.Prelude.{◌≡◌, ℕ, List, ◌++◌}
use Rattle.gd_disk.specs.declared.disks.Disk.{Ghosts as DiskGhosts}
use Rattle.gd_edges.specs.declared.draws.Draws.{Ghosts as DrawGhosts}
use Rattle.gd_edges.specs.declared.signers.Signer.{Ghosts as SignerGhosts}
use Rattle.group_model.specs.declared.entries.Entry.{Entry}
use Rattle.group_steps.specs.ServedCrashes.{LeavesServed}
use Rattle.server_steps.specs.Hosts.{Host}
use Rattle.server_steps.specs.Reflects.{IsServerOf}
use Rattle.server_steps.specs.Steps.{AreServed}
use Rattle.register_workers.specs.Views.{View}

module _ {D G : Type 0} (d : DiskGhosts D) (g : SignerGhosts G) (signer : G) (block : ℕ → List ℕ) where
  -- Once some first entries were served: where the disk is honest and exposes its octets, a crash at any moment from there on leaves the group after some of
  -- the later ones, or with the batch that is being written. No batch that was stored by then is lost.
  pub record SurvivesSince (host : Host D) (front later : List Entry) (after : Host D) : Type 0 where
    pub mid : Host D
    pub so_far : AreServed d g signer block host front mid
    pub goes_on : AreServed d g signer block mid later after
    pub leaves : LeavesServed d g signer block mid later after

module _ {D G R : Type 0} (d : DiskGhosts D) (g : SignerGhosts G) (draws : DrawGhosts R) where
  -- The entries since a block began lead from the host that its server was on to one that it is on after it, and the group survives a crash from each place
  -- among them on.
  pub record SurvivesOn (host : Host D) (old new : View D G R) : Type 0 where
    pub news : List Entry
    pub history : new.entries ≡ old.entries ++ news
    pub after : Host D
    pub is_on : IsServerOf d draws new.server after
    pub since : (front later : List Entry) → news ≡ front ++ later
        → SurvivesSince d g old.server.core.signer (draws.block_at old.server.core.draws) host front later after

  -- whatever host the server was on when the block began
  abbrev pub SurvivesCrashes : View D G R → View D G R → Type 0
  SurvivesCrashes old new = (host : Host D) → IsServerOf d draws old.server host → SurvivesOn host old new
