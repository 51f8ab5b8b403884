use Rattle.gd_wire.proofs.HeaderLemmas.{header_read}
use Rattle.gd_wire.proofs.laws.a_header_has_one_text.Goals as goal

pub returns : goal.returns
returns c exchange datagram found now small e = (header_read exchange datagram (found, now) small e).text
