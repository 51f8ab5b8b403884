use Rattle.law_member_roots.proofs.ToldLemmas.{not_older}
use Rattle.law_member_roots.proofs.laws.a_later_reply_is_not_older.Goals as goal

pub returns : goal.returns
returns c depth epoch spi list m keyed store is early later told =
    not_older c.first_epochs_stay.ensures.holders depth epoch spi list m keyed store is early later told
