-- What a crash leaves of a write.
use Rattle.std.specs.Prelude.{ℕ, ◌+◌, ◌-◌, List, ◌++◌, length, take, drop, replicate}

-- octets with a piece at a place, which zeros reach where the octets end before it
abbrev pub laid : List ℕ → ℕ → List ℕ → List ℕ
laid octets at piece = take at octets ++ (replicate (at - length octets) 0 ++ (piece ++ drop (at + length piece) octets))
