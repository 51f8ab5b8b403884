use Rattle.std.proofs.Common.{arith}
use Rattle.gd_cipher.proofs.ExpandLemmas.{times_x_high}
use Rattle.gd_cipher.proofs.schedules.times_x.Goals as goal

pub returns-else-byte-lt128 : goal.returns-else-byte-lt128
returns-else-byte-lt128 c = times_x_high c.args.byte (omega arith) (omega arith)
