use Rattle.std.proofs.Common.{◌≡◌, ◌+◌, ◌++◌, length, drop}
use Rattle.std.specs.List.{zip}
use Rattle.group_model.specs.Private.Handovers.{all_handed_over}
use Rattle.group_model.proofs.handovers.handovers.Given as goal

-- those so far, and those of the leaves that are left
abbrev pub invariant-loop-i : goal.invariant-loop-i
invariant-loop-i l =
    l.handovers ++ all_handed_over (length l.after + l.i) (drop l.i (zip l.before l.after)) ≡ all_handed_over (length l.after) (zip l.before l.after)
