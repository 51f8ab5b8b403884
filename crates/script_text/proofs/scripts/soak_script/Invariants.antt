use Rattle.std.proofs.Common.{◌≡◌, ◌++◌, length}
use Rattle.std.specs.List.{flat_map}
use Rattle.script_text.specs.Soak.{soak_script}
use Rattle.script_text.specs.Written.{ended_line}
use Rattle.script_text.proofs.scripts.soak_script.Given as goal

-- what was written, and then the lines that are left
abbrev pub invariant-loop-line : goal.invariant-loop-line
invariant-loop-line l = l.script ++ flat_map ended_line l.soak ≡ soak_script l.number

abbrev pub decreases-loop-line : goal.decreases-loop-line
decreases-loop-line l = length l.soak
