use Rattle.std.proofs.Common.{◌≡◌, ◌++◌, true, map, drop}
use Rattle.key_tree.specs.Private.Seats.{changed_leaf, places_of}
use Rattle.key_tree.proofs.seating.add_taken.Given as goal

-- those so far, and those that are left
abbrev pub invariant-loop-seat : goal.invariant-loop-seat
invariant-loop-seat l =
    l.leaves ++ map (changed_leaf l.first true) (places_of (drop l.seat-index l.taken)) ≡ l.fn.leaves ++ map (changed_leaf l.first true) (places_of l.taken)
