use Rattle.std.proofs.Common.{◌≡◌, ◌++◌, drop}
use Rattle.key_tree.specs.Private.Seats.{leaves_taken}
use Rattle.key_tree.proofs.seats.leaves_of.Given as goal

-- those so far, and those that are left
abbrev pub invariant-loop-seat : goal.invariant-loop-seat
invariant-loop-seat l = l.ids ++ leaves_taken l.first (drop l.seat-index l.seats) ≡ leaves_taken l.first l.seats
