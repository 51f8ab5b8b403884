use Rattle.std.proofs.Common.{◌≡◌, ◌++◌, drop}
use Rattle.key_tree.specs.Private.Seats.{places_of}
use Rattle.key_tree.proofs.seats.places.Given as goal

-- those so far, and those that are left
abbrev pub invariant-loop-seat : goal.invariant-loop-seat
invariant-loop-seat l = l.places ++ places_of (drop l.seat-index l.seats) ≡ places_of l.seats
