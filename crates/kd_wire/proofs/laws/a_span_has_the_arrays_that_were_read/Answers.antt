use Rattle.kd_wire.proofs.SpanBodies.{body_has}
use Rattle.kd_wire.proofs.laws.a_span_has_the_arrays_that_were_read.Goals as goal

pub returns : goal.returns
returns c = body_has
