-- What the octets of a commit mark and a length say.
use Rattle.std.specs.Prelude.{ℕ, ◌==◌, ◌&&◌, nat_le, List, [], ◌∷◌, length, if◌then◌else◌}
use Rattle.byteorder.specs.Endian.{big_from}
use Rattle.journal_gates.specs.declared.heads.Head.{Head}
use Rattle.journal_gates.specs.declared.heads.Head.TheVariants.{Shut, Open, Broken}

-- the most octets of a body
abbrev pub most_octets : ℕ
most_octets = 65536

-- What octets at a commit mark say: a set commit mark is 1, and is followed by the size of a body in 4 octets; any other commit mark is clear.
-- Octets without a commit mark, or without a size within the limit after a set one, are broken.
abbrev pub head_in : List ℕ → Head
head_in [] = Broken
head_in (gate ∷ rest) =
    if gate == 1 then (if nat_le 4 (length rest) && nat_le (big_from 0 4 rest) most_octets then Open (big_from 0 4 rest) else Broken)
    else Shut
