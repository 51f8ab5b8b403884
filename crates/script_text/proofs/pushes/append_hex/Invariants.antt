use Rattle.std.proofs.Common.{◌≡◌, ℕ, List, ◌++◌, length}
use Rattle.hex.specs.Hex.{encode_lower}
use Rattle.script_text.proofs.pushes.append_hex.Given as goal

-- what was written so far, and what is left
abbrev pub invariant-loop-rest : goal.invariant-loop-rest
invariant-loop-rest l = (done : List ℕ) × (l.fn.octets ≡ done ++ l.rest) × (l.out ≡ l.fn.out ++ encode_lower done)

abbrev pub decreases-loop-rest : goal.decreases-loop-rest
decreases-loop-rest l = length l.rest
