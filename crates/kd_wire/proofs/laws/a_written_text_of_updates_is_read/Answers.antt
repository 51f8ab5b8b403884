use Rattle.kd_wire.proofs.WrittenBodies.{text_reads}
use Rattle.kd_wire.proofs.laws.a_written_text_of_updates_is_read.Goals as goal

pub returns : goal.returns
returns c = text_reads
