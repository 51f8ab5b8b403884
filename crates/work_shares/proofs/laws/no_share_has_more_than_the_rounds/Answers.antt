use Rattle.work_shares.proofs.ShareLemmas.{share_in_rounds}
use Rattle.work_shares.proofs.laws.no_share_has_more_than_the_rounds.Goals as goal

pub returns : goal.returns
returns g c = λ items n w less. share_in_rounds n w less items
