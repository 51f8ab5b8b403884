-- How far a disk in memory reaches.
use Rattle.std.specs.Prelude.{⊤, ℕ, ◌+◌, ◌^◌, ◌≤◌, List, [], ◌∷◌, length}
use Rattle.gd_disk.specs.Media.{before}
use Rattle.gd_disk.specs.declared.events.Event.{Event}
use Rattle.gd_disk.specs.declared.events.Event.TheVariants.{Wrote, Shortened, Synced}

-- an event reaches no further than 2^62
abbrev pub Reaches : Event → Type 0
Reaches (Wrote at octets undo) = at + length octets ≤ 2 ^ 62
Reaches (Shortened to undo) = to ≤ 2 ^ 62
Reaches Synced = ⊤

-- no event reached further, and before each the octets ended there or before
abbrev pub LayWithin : List ℕ → List Event → Type 0
LayWithin image [] = ⊤
LayWithin image (event ∷ earlier) =
    Reaches event × (length (before event image) ≤ 2 ^ 62) × LayWithin (before event image) earlier

-- the octets end at 2^62 or before, now and before each event
abbrev pub LiesWithin : List ℕ → List Event → Type 0
LiesWithin image events = (length image ≤ 2 ^ 62) × LayWithin image events
