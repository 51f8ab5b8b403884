use Rattle.std.proofs.Common.{rules}
use Rattle.epoch_board.proofs.StepLemmas.{looks}
use Rattle.epoch_board.proofs.boards.EpochBoard.now.Goals as goal

pub load-word-requires : goal.load-word-requires
load-word-requires c = (search rules, search rules, looks _ _ _)
