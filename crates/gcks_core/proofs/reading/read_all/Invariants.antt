use Rattle.std.proofs.Common.{◌-◌, ◌^◌}
use Rattle.gcks_core.proofs.ReplayLemmas.{IsReading}
use Rattle.gcks_core.proofs.reading.read_all.Given as goal

abbrev pub invariant-loop-replay : goal.invariant-loop-replay
invariant-loop-replay g l = IsReading g.D.Disk l.fn.store l.store l.initial.head l.replay

abbrev pub decreases-loop-replay : goal.decreases-loop-replay
decreases-loop-replay g l = 2 ^ 62 - l.store.at
