use Rattle.law_member_roots.proofs.WrittenLemmas.{told_fits, told_number_fits}
use Rattle.law_member_roots.proofs.laws.a_reply_can_be_written.Goals as goal

pub returns : goal.returns
returns c depth epoch spi list m keyed group early member told =
    let is = c.a_reply_is_at_its_root.ensures depth epoch spi list m keyed group early member told in (
      told_fits depth spi list group epoch m keyed told is.0 is.1,
      told_number_fits depth spi list group c.first_epochs_stay.ensures.holders epoch m keyed early is.1,
    )
