use Rattle.epoch_board.proofs.PairLemmas.{is_less-last_pair}
use Rattle.epoch_board.proofs.laws.later_pairs_are_no_less.Goals as goal

pub returns-clause-later : goal.returns-clause-later
returns-clause-later c = is_less-last_pair
