use Rattle.std.proofs.Common.{sym}
use Rattle.kd_wire.proofs.SizeLemmas.{traffic_kd_size}
use Rattle.kd_wire.proofs.sizes.traffic_kd_size.Goals as goal

pub returns : goal.returns
returns c = sym (traffic_kd_size c.args.traffic.now c.prove_traffic_fits.ensures)
