use Rattle.law_member_roots.proofs.ToldLemmas.{keys, reply, told_number}
use Rattle.law_member_roots.proofs.laws.a_reply_is_at_its_root.Goals as goal

pub returns : goal.returns
returns c depth epoch spi list m keyed group early member told = (
  reply c.each_law_holds.ensures c.first_epochs_stay.ensures.holders c.first_epochs_stay.ensures.last_changes depth epoch spi list m keyed group
      early member told,
  keys c.each_law_holds.ensures c.first_epochs_stay.ensures.holders c.first_epochs_stay.ensures.last_changes depth epoch spi list m keyed group
      early member told,
  told_number c.first_epochs_stay.ensures.holders depth epoch spi list m keyed early told,
)
