use Rattle.law_member_roots.proofs.AtRootLemmas.{epoch_is}
use Rattle.law_member_roots.proofs.SentLemmas.{with_keys_of}
use Rattle.law_member_roots.proofs.laws.a_store_at_a_root_has_its_epoch.Goals as goal

pub returns-clause-epoch : goal.returns-clause-epoch
returns-clause-epoch c depth epoch spi list m store is =
    let ways = c.each_law_holds.ensures in
    epoch_is ways depth epoch spi list m store is

pub returns-clause-of_group : goal.returns-clause-of_group
returns-clause-of_group c depth epoch spi list m store has =
    let ways = c.each_law_holds.ensures in
    with_keys_of ways depth spi list m epoch store has
