use Rattle.gd_wire.proofs.HeaderLemmas.{header_read}
use Rattle.gd_wire.proofs.ChainReadings.{at_start}
use Rattle.gd_wire.proofs.ChainLaws.{chain_read}
use Rattle.gd_wire.proofs.laws.what_is_read_can_be_written.Goals as goal

pub returns-clause-header : goal.returns-clause-header
returns-clause-header c exchange datagram found now small e = (header_read exchange datagram (found, now) small e).fits

pub returns-clause-payloads : goal.returns-clause-payloads
returns-clause-payloads c text due base first parts octets small read =
    (chain_read text base due _ _ parts (at_start text base) read).fit octets small
