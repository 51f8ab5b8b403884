use Rattle.gd_wire.proofs.HeaderLemmas.{header_written}
use Rattle.gd_wire.proofs.laws.a_written_header_is_read.Goals as goal

pub returns : goal.returns
returns c = header_written
