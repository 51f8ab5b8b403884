use Rattle.std.proofs.Common.{◌≡◌, drop, length, map}
use Rattle.std.specs.Prelude.{is_none, is_some}
use Rattle.group_model.specs.Indexes.{IsIndexOf}
use Rattle.key_tree.specs.Marks.{seated}
use Rattle.key_tree.proofs.installing.take_seats.Given as goal

-- those that are left make of the holders what all make of the first ones, and the marks follow
abbrev pub invariant-loop-seat : goal.invariant-loop-seat
invariant-loop-seat l = record {
  rest : seated l.holders (drop l.seat-index l.seats) ≡ seated l.fn.holders l.seats;
  long : length l.holders ≡ length l.fn.holders;
  index : IsIndexOf l.holders l.index;
  held : l.held ≡ record { depth = l.fn.held.depth; leaves = map is_some l.holders };
  free : l.free ≡ record { depth = l.fn.held.depth; leaves = map is_none l.holders };
}
