use Rattle.kd_wire.proofs.WrittenTraffic.{traffic_reads}
use Rattle.kd_wire.proofs.laws.a_written_traffic_key_is_read.Goals as goal

pub returns : goal.returns
returns c = traffic_reads
