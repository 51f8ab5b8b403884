-- Sums as 64 bits keep them.
use Rattle.std.specs.Prelude.{ℕ, ◌+◌, ◌%◌, ◌^◌, List, [], ◌∷◌}

-- what a sum comes to that begins at a number, and to which the numbers of a list are added one after the other
abbrev pub total_from : ℕ → List ℕ → ℕ
total_from sum [] = sum
total_from sum (n ∷ numbers) = total_from ((sum + n) % 2 ^ 64) numbers
