use Rattle.epoch_board.proofs.StepLemmas.{opens}
use Rattle.epoch_board.proofs.boards.EpochBoard.with_publisher.Goals as goal

pub of_words-requires : goal.of_words-requires
of_words-requires c = opens
