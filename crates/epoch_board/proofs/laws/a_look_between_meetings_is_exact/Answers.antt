use Rattle.epoch_board.proofs.PairLemmas.{StartsWith-both}
use Rattle.epoch_board.proofs.laws.a_look_between_meetings_is_exact.Goals as goal

pub returns : goal.returns
returns c = StartsWith-both
