-- What a board shows of a history.
use Rattle.std.specs.Prelude.{◌≡◌, ◌≤◌, List, length, take}
use Rattle.group_model.specs.declared.entries.Entry.{Entry}
use Rattle.group_run.specs.declared.boards.Board.{Board}
use Rattle.group_steps.specs.Shows.{pairs_shown}

-- Its publisher and its pass are of the board, and just the pairs of the entries up to a place were published.
pub record IsShown (board : Board) (entries : List Entry) : Type 0 where
  pub publishes : board.publisher.board ≡ board.board
  pub reads : board.reader.board ≡ board.board
  pub within : board.upto ≤ length entries
  pub published : board.publisher.published ≡ pairs_shown (take board.upto entries)
