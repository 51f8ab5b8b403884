use Rattle.std.proofs.Common.{refl}
use Rattle.gd_wire.proofs.ChainLaws.{payload_written, written_body, end_written}
use Rattle.gd_wire.proofs.laws.a_written_payload_is_read.Goals as goal

pub returns-clause-payload : goal.returns-clause-payload
returns-clause-payload c = payload_written

pub returns-clause-body : goal.returns-clause-body
returns-clause-body c = written_body

pub returns-clause-end : goal.returns-clause-end
returns-clause-end c zeros base at named_at few = end_written zeros _ _ few refl refl
