use Rattle.gd_wire.proofs.AttributeLaws.{short_written, long_written}
use Rattle.gd_wire.proofs.laws.a_written_attribute_is_read.Goals as goal

pub returns : goal.returns
returns c = record { short = short_written; long = long_written }
