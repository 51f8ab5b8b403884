use Rattle.sa_wire.proofs.OctetLemmas.{sa_octets}
use Rattle.sa_wire.proofs.laws.written_policies_are_octets.Goals as goal

pub returns : goal.returns
returns c =
    let framing = c.written_framing_is_octets.ensures in
    sa_octets framing.number framing.short framing.long framing.payload
