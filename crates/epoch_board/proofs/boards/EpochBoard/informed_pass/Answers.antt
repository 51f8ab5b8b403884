use Rattle.std.proofs.Common.{rules}
use Rattle.epoch_board.proofs.StepLemmas.{tells}
use Rattle.epoch_board.proofs.boards.EpochBoard.informed_pass.Goals as goal

pub split_seat-told-requires : goal.split_seat-told-requires
split_seat-told-requires c = (search rules, search rules, tells _ _)
