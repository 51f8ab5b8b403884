use Rattle.std.proofs.Common.{◌≡◌, false, drop}
use Rattle.std.specs.List.{list_any}
use Rattle.group_terms.specs.Changes.{joiners}
use Rattle.group_model.specs.Places.{Holders, is_member}
use Rattle.key_tree.specs.Private.Seats.{IsLeft, IsVacant, placements}
use Rattle.key_tree.proofs.ComingLemmas.{GoesOn}
use Rattle.key_tree.proofs.seats.take_all.Given as goal

-- those so far and those that the others get are those that all get; and no other was a member
abbrev pub invariant-loop-change : goal.invariant-loop-change
invariant-loop-change l = record {
  vacant : IsVacant l.vacant;
  left : l.vacant.left ≡ l.fn.vacant.left;
  taken : (before left : Holders) → IsLeft before left l.free.leaves l.fn.vacant.left → list_any (is_member before) (joiners l.batch) ≡ false
      → GoesOn before left (placements left (joiners l.batch)) l.fn.seats (drop l.change-index l.batch) l.seats l.vacant.from;
}
