use Rattle.std.proofs.Common.{arith}
use Rattle.server_steps.proofs.seeing.room.Goals as goal

pub returns-clause-spare : goal.returns-clause-spare
returns-clause-spare c = omega (arith, c.in_ok-reserve.ensures.spare)
