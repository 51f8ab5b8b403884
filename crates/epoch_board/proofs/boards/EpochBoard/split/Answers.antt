use Rattle.std.proofs.Common.{rules}
use Rattle.epoch_board.proofs.StepLemmas.{tells}
use Rattle.epoch_board.proofs.boards.EpochBoard.split.Goals as goal

pub split_seat-seat-requires : goal.split_seat-seat-requires
split_seat-seat-requires c = (search rules, search rules, tells _ _)
