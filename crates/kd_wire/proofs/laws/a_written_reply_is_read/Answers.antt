use Rattle.kd_wire.proofs.WrittenReply.{reply_reads}
use Rattle.kd_wire.proofs.laws.a_written_reply_is_read.Goals as goal

pub returns : goal.returns
returns c = reply_reads
