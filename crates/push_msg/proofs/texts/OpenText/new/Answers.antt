use Rattle.push_msg.proofs.TextLemmas.{nothing_opened}
use Rattle.push_msg.proofs.texts.OpenText.new.Goals as goal

pub invariant_of-result : goal.invariant_of-result
invariant_of-result c = (
  c.in_ok-new.ensures.room,
  c.in_ok-new-2.ensures.room,
  nothing_opened c.default.result.key c.default.result.iv c.in_ok-new.field-0.octets c.in_ok-new-2.field-0.octets
      c.in_ok-new.ensures.octets c.in_ok-new-2.ensures.octets,
)
