use Rattle.std.proofs.Common.{None, Some}
use Rattle.server_steps.proofs.SentLemmas.{fourth_more, second_more}
use Rattle.server_steps.proofs.laws.messages_stay.Goals as goal

pub returns : goal.returns
returns c kind first depth spi list later phase octets None is = second_more c.laws_hold.ensures kind first depth spi list later phase octets is
returns c kind first depth spi list later phase octets (Some says) is = fourth_more c.laws_hold.ensures kind first depth spi list later phase octets says is
