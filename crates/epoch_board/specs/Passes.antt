-- What contracts see of a publisher and of a pass.
use Rattle.std.specs.Prelude.{List}
use Rattle.atomic_table.specs.Seated.{TableId}
use Rattle.epoch_board.specs.declared.pairs.Seen.{Seen}
use Rattle.epoch_board.specs.declared.moments.Moment.{Moment}

-- the board of a publisher, the pairs that it published, in order, and the history of the board as far as it knows it
pub record PublisherState : Type 0 where
  pub board : TableId
  pub published : List Seen
  pub moments : List Moment

-- the board of a pass, the published pairs that it has seen, in order from the first on, and the history of the board as far as it knows it
pub record PassState : Type 0 where
  pub board : TableId
  pub seen : List Seen
  pub moments : List Moment
