use Rattle.std.proofs.Common.{rules, []}
use Rattle.epoch_board.specs.Private.Rule.{moments_of}
use Rattle.epoch_board.proofs.StepLemmas.{publishes}
use Rattle.epoch_board.proofs.boards.EpochBoard.publish.Goals as goal

pub store-requires : goal.store-requires
store-requires c =
    (search rules, search rules, publishes _ _ _ _ (moments_of c.publisher.inside.seat.me.0) [] (λ i. (c.publisher.invariant i).0))
