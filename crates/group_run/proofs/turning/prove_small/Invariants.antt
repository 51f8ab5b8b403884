use Rattle.std.proofs.Common.{take}
use Rattle.std.specs.List.{All}
use Rattle.group_run.specs.Private.Ran.{IsSmall}
use Rattle.group_run.proofs.turning.prove_small.Given as goal

abbrev pub invariant-loop-place : goal.invariant-loop-place
invariant-loop-place l = All IsSmall (take l.place l.entries)
