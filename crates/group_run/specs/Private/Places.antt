-- Places in a run between the parts of a block.
use Rattle.std.specs.Prelude.{◌≡◌, ◌++◌, Bool, true, false, List, IsSome}
use Rattle.gd_disk.specs.declared.disks.Disk.{Ghosts as DiskGhosts}
use Rattle.gd_edges.specs.declared.draws.Draws.{Ghosts as DrawGhosts}
use Rattle.group_terms.specs.Names.{Name}
use Rattle.group_model.specs.declared.entries.Asked.{Asked}
use Rattle.group_model.specs.declared.entries.Asked.TheVariants.{Together, Together2}
use Rattle.group_peers.specs.Peers.{sent_by}
use Rattle.group_peers.specs.declared.members.Peer.{Peer}
use Rattle.group_run.specs.Blocks.{Point}
use Rattle.group_run.specs.Places.{IsAt, IsServedAt}
use Rattle.group_run.specs.Views.{View}
use Rattle.member_steps.specs.Members.{Mail, with_mail_left}
use Rattle.register_workers.specs.declared.lines.BlockAsk.{BlockAsk}
use Rattle.register_workers.specs.declared.lines.BlockAsk.TheVariants.{Again, Join}

module _ {D G R : Type 0} (d : DiskGhosts D) (draws : DrawGhosts R) where
  -- and its members, to whom these datagrams are on their way before all that it knows of
  pub record IsAtBefore (mail : List Mail) (held : View D G R) (point : Point D) : Type 0 where
    pub served : IsServedAt d draws held point
    pub present : point.present ≡ with_mail_left held.members (mail ++ held.members.mail)

  -- with these datagrams on their way before all that it knows of, and those after it
  abbrev pub ReachesFrom : List Mail → List Mail → (Point D → Point D → Type 0) → View D G R → View D G R → Type 0
  ReachesFrom mail later leads old new =
      (point : Point D) → IsAtBefore mail old point → (next : Point D) × leads point next × IsAtBefore later new next

  -- and none after it
  abbrev pub ReachesPast : List Mail → (Point D → Point D → Type 0) → View D G R → View D G R → Type 0
  ReachesPast mail leads old new = (point : Point D) → IsAtBefore mail old point → (next : Point D) × leads point next × IsAt d draws new next

  -- but for its members
  abbrev pub ReachesServedFrom : List Mail → (Point D → Point D → Type 0) → View D G R → View D G R → Type 0
  ReachesServedFrom mail leads old new = (point : Point D) → IsAtBefore mail old point → (next : Point D) × leads point next × IsServedAt d draws new next

-- a mark of a block
abbrev pub is_mark : Asked → Bool
is_mark (Together lines) = true
is_mark Together2 = true
is_mark asked = false

-- who sends in a line has sent something
abbrev pub HasSent : List Peer → BlockAsk → Type 0
HasSent peers (Join m) = IsSome (sent_by peers m)
HasSent peers (Again m) = IsSome (sent_by peers m)
HasSent peers ask = Unit {0}

-- who has sent something still has
pub record KeepsSent (old new : List Peer) : Type 0 where
  pub each : (m : Name) → IsSome (sent_by old m) → IsSome (sent_by new m)
