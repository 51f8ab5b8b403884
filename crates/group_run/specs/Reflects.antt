-- Which run a value is.
use Rattle.gd_disk.specs.declared.disks.Disk.{Ghosts as DiskGhosts}
use Rattle.gd_edges.specs.declared.draws.Draws.{Ghosts as DrawGhosts}
use Rattle.server_steps.specs.Reflects.{IsServerOf}
use Rattle.group_steps.specs.Runs.{Run}
use Rattle.group_run.specs.Views.{View}
use Rattle.member_steps.specs.Acts.{Ignores}

-- Its server is that of the run's host, and its members are those of the run, which ignored some of what was on its way.
pub record Reflects {D G R : Type 0} (d : DiskGhosts D) (draws : DrawGhosts R) (held : View D G R) (run : Run D) : Type 0 where
  pub server : IsServerOf d draws held.server run.host
  pub members : Ignores run.members held.members
