use Rattle.std.proofs.Common.{◌≡◌, drop}
use Rattle.script_text.specs.Soak.{soak_lines}
use Rattle.script_text.proofs.soaks.soak_line.Given as goal

-- the lines before this place were taken
abbrev pub invariant-loop-place : goal.invariant-loop-place
invariant-loop-place l = l.soak ≡ drop l.place (soak_lines l.number)
