use Rattle.group_pushes.proofs.OneLemmas.{one_pair}
use Rattle.group_pushes.proofs.laws.pairs_of_a_batch_are_one.Goals as goal

pub returns : goal.returns
returns g c signer another depth spi list pair other alike is also =
    one_pair c.a_text_is_sealed_in_one_way.ensures g.G.Signer signer another depth spi list pair other alike is also
