-- Calls and faults that are counted in 64 bits.
use Rattle.std.specs.Prelude.{ℕ, ◌+◌, ◌-◌, ◌^◌, ◌<◌, ◌≤◌, ◌==◌, min, ◌⊎◌, Bool, List}
use Rattle.std.specs.List.{list_any}

-- a count went up, or it is at its last value
abbrev pub Rose : ℕ → ℕ → Type 0
Rose old new = (old < new) ⊎ (2 ^ 64 - 1 ≤ new)

-- the next count; at its last value it stays
abbrev pub one_more : ℕ → ℕ
one_more count = min (count + 1) (2 ^ 64 - 1)

-- whether the call after so many is listed as one that fails; calls are counted from 1
abbrev pub fails_next : ℕ → List ℕ → Bool
fails_next calls fails = list_any (λ call. call == one_more calls) fails
