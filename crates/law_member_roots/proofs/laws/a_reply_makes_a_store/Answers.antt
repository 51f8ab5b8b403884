use Rattle.law_member_roots.proofs.ToldLemmas.{makes_store}
use Rattle.law_member_roots.proofs.laws.a_reply_makes_a_store.Goals as goal

pub returns : goal.returns
returns c depth spi list m keyed some shallow member told =
    makes_store c.each_law_holds.ensures depth spi list m keyed some shallow member told
