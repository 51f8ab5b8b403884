-- A book as its callers see it.
use Rattle.std.specs.Prelude.{List}
use Rattle.atomic_table.specs.Seated.{TableId}
use Rattle.epoch_board.specs.declared.pairs.Seen.{Seen}
use Rattle.group_model.specs.declared.entries.Entry.{Entry}
use Rattle.server_steps.specs.Views.{View as ServerView}

-- its server, the board on which it publishes, the pairs that it published, and its history
pub record View (D G R : Type 0) : Type 0 where
  pub server : ServerView D G R
  pub board : TableId
  pub published : List Seen
  pub entries : List Entry
