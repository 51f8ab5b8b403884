use Rattle.std.proofs.Common.{◌≡◌, ◌++◌, take}
use Rattle.std.specs.List.{flat_map}
use Rattle.script_text.specs.Report.{wrap_line}
use Rattle.script_text.proofs.wraps.append_wraps.Given as goal

-- the lines of the wraps that it went over
abbrev pub invariant-loop-wrap : goal.invariant-loop-wrap
invariant-loop-wrap l = l.out ≡ l.initial.out ++ flat_map wrap_line (take l.wrap-index l.wraps)
