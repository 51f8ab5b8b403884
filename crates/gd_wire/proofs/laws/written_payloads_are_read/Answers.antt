use Rattle.std.proofs.Common.{refl}
use Rattle.gd_wire.proofs.ChainReadings.{at_start}
use Rattle.gd_wire.proofs.ChainLaws.{chain_written}
use Rattle.gd_wire.proofs.laws.written_payloads_are_read.Goals as goal

pub returns : goal.returns
returns c payloads zeros base fit few = chain_written _ base zeros few payloads _ _ fit refl (at_start _ base) refl
