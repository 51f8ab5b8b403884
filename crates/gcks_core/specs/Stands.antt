-- Which server a core is.
use Rattle.std.specs.Prelude.{◌≡◌, ◌+◌, ◌^◌, false, length, None}
use Rattle.std.specs.List.{All}
use Rattle.gd_edges.specs.declared.draws.Draws.{Ghosts as DrawGhosts}
use Rattle.group_values.specs.Values.{KeepsLast}
use Rattle.key_tree.specs.Present.{StandsFor}
use Rattle.group_model.specs.Servers.{Server, present_batches}
use Rattle.group_pushes.specs.Fits.{MadeFits}
use Rattle.gcks_core.specs.Stored.{AreDue}
use Rattle.gcks_core.specs.Views.{View}

-- Its tree is what the batches of the server made, and it keeps the values of their keys. Each of them was due after those before it, and its values are
-- keys. No batch is in doubt unless it has to be opened again. Which batch is in doubt shows in the journal alone: a core that has to be opened again is a
-- server with any batch in doubt.
pub record Stands {D G R : Type 0} (draws : DrawGhosts R) (core : View D G R) (server : Server) : Type 0 where
  pub depth : core.head.depth ≡ server.depth
  pub limit : core.head.limit ≡ server.limit
  pub tree_depth : core.tree.depth ≡ server.depth
  pub tree : StandsFor core.tree (present_batches server)
  pub room : length core.tree.kept.nodes ≡ 2 ^ (server.depth + 1)
  pub kept : KeepsLast core.tree.kept server.list
  pub due : AreDue server.depth server.limit server.list
  pub fit : All MadeFits server.list
  pub queue : core.queue ≡ server.queue
  pub needs_reopen : core.needs_reopen ≡ server.needs_reopen
  pub sure : server.needs_reopen ≡ false → server.doubt ≡ None
  pub place : draws.place_of core.draws ≡ server.place
