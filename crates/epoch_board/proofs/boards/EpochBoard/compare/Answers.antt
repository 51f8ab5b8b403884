use Rattle.std.proofs.Common.{rules, []}
use Rattle.epoch_board.specs.Private.Rule.{moments_of}
use Rattle.epoch_board.proofs.StepLemmas.{takes_in, compares}
use Rattle.epoch_board.proofs.boards.EpochBoard.compare.Goals as goal

pub join_seat-requires : goal.join_seat-requires
join_seat-requires c = (
  search rules,
  search rules,
  search rules,
  search rules,
  takes_in _ _ _ _ (moments_of c.publisher.inside.seat.me.0) [] (λ i. (c.publisher.invariant i).0),
)

pub load-requires : goal.load-requires
load-requires c = (search rules, search rules, compares _ _ _ _ _ (λ i. (c.join_seat.ensures.2 i).0))
