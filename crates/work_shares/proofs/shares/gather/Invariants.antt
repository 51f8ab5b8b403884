use Rattle.std.proofs.Common.{◌≡◌, ◌+◌, ◌<◌, ◌≤◌, ◌++◌, ℕ, List, [], length, map, reverse, slice_index_or, vec_capacity, vec_len, Global, Vec}
use Rattle.work_shares.specs.Shares.{share}
use Rattle.work_shares.proofs.shares.gather.Given as goal

-- Each hand has as many items as its share of the items that are left; and whatever list of these has what the hands have as shares, with what was taken it has
-- what they had.
abbrev pub invariant-loop-left : goal.invariant-loop-left
invariant-loop-left g l = record {
  count : length l.hands ≡ length l.fn.hands;
  room : (l.left + vec_len l.room ≡ l.fn.count) × (l.fn.count ≤ vec_capacity l.room);
  left : (list : List g.row.T.Denot) × (length list ≡ l.left) × ((w : ℕ) → w < length l.fn.hands
      → length (slice_index_or (map (λ (hand : Vec g.row.T.Denot Global). hand.items) l.hands) w []) ≡ length (share (length l.fn.hands) w list));
  taken : (list : List g.row.T.Denot) → length list ≡ l.left
      → ((w : ℕ) → w < length l.fn.hands
      → share (length l.fn.hands) w list ≡ slice_index_or (map (λ (hand : Vec g.row.T.Denot Global). hand.items) l.hands) w [])
      → (w : ℕ) → w < length l.fn.hands
      → share (length l.fn.hands) w (list ++ reverse l.room.items)
      ≡ slice_index_or (map (λ (hand : Vec g.row.T.Denot Global). hand.items) l.fn.hands) w [];
}

abbrev pub decreases-loop-left : goal.decreases-loop-left
decreases-loop-left g l = l.left
