-- What workers take turns at.
use Rattle.std.specs.Prelude.{◌≡◌, ℕ, List, Option, None, Some}
use Rattle.atomic_table.specs.Seated.{TableId}
use Rattle.epoch_board.specs.declared.pairs.Seen.{Seen}
use Rattle.gd_disk.specs.declared.disks.Disk.{Ghosts as DiskGhosts}
use Rattle.gd_edges.specs.declared.draws.Draws.{Ghosts as DrawGhosts}
use Rattle.gd_edges.specs.declared.signers.Signer.{Ghosts as SignerGhosts}
use Rattle.group_model.specs.declared.entries.Entry.{Entry}
use Rattle.server_steps.specs.Serves.{IsSince, Start}
use Rattle.server_steps.specs.Views.{View as ServerView}
use Rattle.group_steps.specs.Shows.{pairs_shown}

-- the server, the board on which it publishes, what was published, the history, for how many more entries there is room, and how many there were at the start
pub record Seated (D G R : Type 0) : Type 0 where
  pub server : ServerView D G R
  pub board : TableId
  pub published : List Seen
  pub entries : List Entry
  pub spare : ℕ
  pub begun : ℕ

module _ {D G R : Type 0} (d : DiskGhosts D) (g : SignerGhosts G) (draws : DrawGhosts R) where
  -- the entries since a start are steps of the server, if that start is known
  abbrev pub IsSinceIf : Option (Start D G R) → ServerView D G R → List Entry → Type 0
  IsSinceIf None server entries = Unit {0}
  IsSinceIf (Some start) server entries = IsSince d g draws start server entries

  -- It publishes on its board, and published just the pairs of its history, which goes on from the start by steps of the server.
  pub record IsSeated (start : Option (Start D G R)) (publishes_on : TableId) (seated : Seated D G R) : Type 0 where
    pub one_board : publishes_on ≡ seated.board
    pub shown : seated.published ≡ pairs_shown seated.entries
    pub since : IsSinceIf start seated.server seated.entries
