use Rattle.std.proofs.Common.{◌≡◌, ◌<◌, ◌≤◌, ◌++◌, ℕ, [], length, map, reverse, slice_index_or, vec_capacity, Global, Vec}
use Rattle.work_shares.specs.Shares.{share}
use Rattle.work_shares.proofs.shares.deal.Given as goal

-- what each hand has, with its share of what is left
abbrev pub invariant-loop-item : goal.invariant-loop-item
invariant-loop-item g l = record {
  count : length l.hands ≡ length l.fn.hands;
  dealt : (w : ℕ) → w < length l.fn.hands → reverse (share (length l.fn.hands) w l.fn.items)
      ≡ slice_index_or (map (λ (hand : Vec g.row.T.Denot Global). hand.items) l.hands) w [] ++ reverse (share (length l.fn.hands) w l.items);
  room : (w : ℕ) → w < length l.fn.hands → length (share (length l.fn.hands) w l.fn.items)
      ≤ slice_index_or (map (λ (hand : Vec g.row.T.Denot Global). vec_capacity hand) l.hands) w 0;
}

abbrev pub decreases-loop-item : goal.decreases-loop-item
decreases-loop-item g l = length l.items
