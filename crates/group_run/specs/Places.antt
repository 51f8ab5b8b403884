-- At which place in a run a value is, and which places it reaches.
use Rattle.std.specs.Prelude.{◌≡◌, ℕ, List}
use Rattle.std.specs.List.{IsDistinct, flat_map}
use Rattle.gd_disk.specs.declared.disks.Disk.{Ghosts as DiskGhosts}
use Rattle.gd_edges.specs.declared.draws.Draws.{Ghosts as DrawGhosts}
use Rattle.group_terms.specs.Names.{Name, same_name}
use Rattle.group_run.specs.Blocks.{Point}
use Rattle.group_run.specs.Views.{View}
use Rattle.group_steps.specs.Devices.{Keying, keying}
use Rattle.register_workers.specs.Own.{named_by}
use Rattle.register_workers.specs.declared.lines.BlockAsk.{BlockAsk}
use Rattle.server_steps.specs.Reflects.{IsServerOf}

-- what keys are made with, where members draw these blocks and ask for this group
abbrev pub keys_of : {D G R : Type 0} → DrawGhosts R → View D G R → (ℕ → List ℕ) → Name → Keying G
keys_of draws held block group = keying held.server.core.signer (draws.block_at held.server.core.draws) block group

module _ {D G R : Type 0} (d : DiskGhosts D) (draws : DrawGhosts R) where
  -- its history and its server
  pub record IsServedAt (held : View D G R) (point : Point D) : Type 0 where
    pub entries : held.entries ≡ point.entries
    pub server : IsServerOf d draws held.server point.run.host

  -- and its members
  pub record IsAt (held : View D G R) (point : Point D) : Type 0 where
    pub served : IsServedAt held point
    pub present : point.present ≡ held.members

  -- wherever it was, it is where this relation leads
  abbrev pub Reaches : (Point D → Point D → Type 0) → View D G R → View D G R → Type 0
  Reaches leads old new = (point : Point D) → IsAt old point → (next : Point D) × leads point next × IsAt new next

  -- but for its members
  abbrev pub ReachesServed : (Point D → Point D → Type 0) → View D G R → View D G R → Type 0
  ReachesServed leads old new = (point : Point D) → IsAt old point → (next : Point D) × leads point next × IsServedAt new next

-- no member is named twice
abbrev pub AreAsked : List BlockAsk → Type 0
AreAsked asks = IsDistinct same_name (flat_map named_by asks)
