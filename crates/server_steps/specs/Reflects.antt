-- Which host a key server is on.
use Rattle.std.specs.Prelude.{◌≡◌}
use Rattle.gd_disk.specs.declared.disks.Disk.{Ghosts as DiskGhosts}
use Rattle.gd_edges.specs.declared.draws.Draws.{Ghosts as DrawGhosts}
use Rattle.gcks_core.specs.Stands.{Stands}
use Rattle.server_steps.specs.Disks.{HasJournal}
use Rattle.server_steps.specs.Hosts.{Host}
use Rattle.server_steps.specs.Views.{View}

-- It is the server of a host, on its disk, which has the batches of that server; and its rules and sessions are those of the host.
pub record IsServerOf {D G R : Type 0} (d : DiskGhosts D) (draws : DrawGhosts R) (view : View D G R) (host : Host D) : Type 0 where
  pub disk : host.disk ≡ view.core.disk
  pub head : host.head ≡ view.core.head
  pub stands : Stands draws view.core host.server
  pub journal : HasJournal d host
  pub rules : host.rules ≡ view.rules
  pub sessions : host.sessions ≡ view.sessions
