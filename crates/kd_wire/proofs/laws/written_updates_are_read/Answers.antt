use Rattle.kd_wire.proofs.WrittenBodies.{push_reads}
use Rattle.kd_wire.proofs.laws.written_updates_are_read.Goals as goal

pub returns : goal.returns
returns c = push_reads
