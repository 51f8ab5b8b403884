use Rattle.std.proofs.Common.{reverse}
use Rattle.gd_disk.specs.MediaLaws.{image_stays}
use Rattle.gd_disk.proofs.crashes.surviving.Goals as goal

pub returns-in-All-clause-left : goal.returns-in-All-clause-left
returns-in-All-clause-left c = image_stays c.args.octets (reverse c.args.events.now)
