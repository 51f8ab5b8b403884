use Rattle.std.proofs.Common.{length}
use Rattle.gd_disk.proofs.crashes.+left.Given as goal

abbrev pub decreases-left : goal.decreases-left
decreases-left l = length l.events.now
