use Rattle.std.proofs.Common.{◌-◌, length}
use Rattle.group_run.specs.Private.Boards.{IsShown}
use Rattle.group_run.proofs.boards.Board.catch_up.Given as goal

abbrev pub invariant-loop-entry : goal.invariant-loop-entry
invariant-loop-entry l = IsShown l.self l.entries

abbrev pub decreases-loop-entry : goal.decreases-loop-entry
decreases-loop-entry l = length l.entries - l.self.upto
