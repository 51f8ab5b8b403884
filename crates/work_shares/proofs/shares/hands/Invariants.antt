use Rattle.std.proofs.Common.{◌≡◌, ◌+◌, ◌/◌, ◌%◌, ◌≤◌, [], length, min, vec_capacity, All, Global, Vec}
use Rattle.work_shares.proofs.shares.hands.Given as goal

-- the hands so far are empty, and have room
abbrev pub invariant-loop : goal.invariant-loop
invariant-loop g l = record {
  made : length l.hands.items ≡ l.counter;
  empty : All (λ (hand : Vec g.row.T.Denot Global). hand.items ≡ []) l.hands.items;
  room : All (λ (hand : Vec g.row.T.Denot Global). l.fn.count / l.fn.shares + min 1 (l.fn.count % l.fn.shares) ≤ vec_capacity hand) l.hands.items;
  capacity : l.fn.shares ≤ vec_capacity l.hands;
}
