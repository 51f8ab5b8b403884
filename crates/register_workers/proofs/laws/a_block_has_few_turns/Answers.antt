use Rattle.register_workers.proofs.FewLemmas.{few_in_block}
use Rattle.register_workers.proofs.laws.a_block_has_few_turns.Goals as goal

pub returns : goal.returns
returns c = few_in_block c.no_share_has_more_than_the_rounds.ensures
