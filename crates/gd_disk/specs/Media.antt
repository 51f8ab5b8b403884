-- A disk in memory: its octets and what was done to them, from which its earlier octets and what a crash may leave follow.
use Rattle.std.specs.Prelude.{◌≡◌, ◌⊎◌, ℕ, ◌+◌, ◌≤◌, List, [], ◌∷◌, ◌++◌, length, take, drop}
use Rattle.gd_disk.specs.Disks.{written, Torn, Cut}
use Rattle.group_terms.specs.Faults.{one_more}
use Rattle.gd_disk.specs.declared.events.Event.{Event}
use Rattle.gd_disk.specs.declared.events.Event.TheVariants.{Wrote, Shortened, Synced}

-- the octets, what was done to them with the newest first, the calls so far, the calls that fail, and how many did
pub record Medium : Type 0 where
  pub image : List ℕ
  pub events : List Event
  pub calls : ℕ
  pub fails : List ℕ
  pub faults : ℕ

-- octets with others at a place, in place of a number of earlier ones
abbrev pub replaced : List ℕ → ℕ → ℕ → List ℕ → List ℕ
replaced octets at n others = take at octets ++ (others ++ drop (at + n) octets)

-- the octets before an event
abbrev pub before : Event → List ℕ → List ℕ
before (Wrote at octets undo) image = replaced image at (length octets) undo
before (Shortened to undo) image = image ++ undo
before Synced image = image

-- what a crash may make, in an event, of what it might have left before; a sync leaves no choice
abbrev pub Tears : Event → (List ℕ → Type 0) → List ℕ → Type 0
Tears (Wrote at octets undo) left c = (d : List ℕ) × left d × Torn at (length octets) d c
Tears (Shortened to undo) left c = (d : List ℕ) × left d × Cut to d c
Tears Synced left c = ⊥

-- what a crash may leave: the octets as a read gives them, or what it might have left before the last event, with that event torn
abbrev pub MayLeave : List ℕ → List Event → List ℕ → Type 0
MayLeave image [] c = c ≡ image
MayLeave image (event ∷ earlier) c = (c ≡ image) ⊎ Tears event (MayLeave (before event image) earlier) c

-- what a crash from that moment on might have left, before the last event; a moment is a number of events
abbrev pub LeftBefore : List ℕ → List Event → ℕ → List ℕ → Type 0
LeftBefore image [] t c = ⊥
LeftBefore image (event ∷ earlier) t c =
    (t ≤ length earlier) × (MayLeave (before event image) earlier c ⊎ LeftBefore (before event image) earlier t c)

-- what a crash from that moment on might have left: what it may leave now, or what it might have left before
abbrev pub LeftSince : List ℕ → List Event → ℕ → List ℕ → Type 0
LeftSince image events t c = MayLeave image events c ⊎ LeftBefore image events t c

-- the octets at the last sync
abbrev pub synced_image : List ℕ → List Event → List ℕ
synced_image image [] = image
synced_image image (Synced ∷ earlier) = image
synced_image image (event ∷ earlier) = synced_image (before event image) earlier

-- a new medium with these octets, all of them synced, which fails at these calls
abbrev pub fresh : List ℕ → List ℕ → Medium
fresh image fails = record { image = image; events = []; calls = 0; fails = fails; faults = 0 }

-- the medium after a call that changed nothing
abbrev pub called : Medium → Medium
called medium = record medium { calls = one_more medium.calls }

-- the medium after a call that failed
abbrev pub failing : Medium → Medium
failing medium = record medium { calls = one_more medium.calls; faults = one_more medium.faults }

-- the medium after these octets were written at a place
abbrev pub wrote : Medium → ℕ → List ℕ → Medium
wrote medium at octets = record medium {
  image = written medium.image at octets;
  events = Wrote at octets (take (length octets) (drop at medium.image)) ∷ medium.events;
  calls = one_more medium.calls;
}

-- the medium after all from a place on was cut
abbrev pub shortened : Medium → ℕ → Medium
shortened medium to = record medium {
  image = take to medium.image;
  events = Shortened to (drop to medium.image) ∷ medium.events;
  calls = one_more medium.calls;
}

-- the medium after a sync
abbrev pub synced : Medium → Medium
synced medium = record medium { events = Synced ∷ medium.events; calls = one_more medium.calls }
