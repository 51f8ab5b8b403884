use Rattle.std.proofs.Common.{◌≡◌, ◌++◌, take}
use Rattle.std.specs.List.{flat_map}
use Rattle.script_text.specs.Report.{leaf_line}
use Rattle.script_text.proofs.seen.append_leaves.Given as goal

-- the lines of the members that it went over
abbrev pub invariant-loop-standing : goal.invariant-loop-standing
invariant-loop-standing l = l.out ≡ l.initial.out ++ flat_map leaf_line (take l.standing-index l.members)
