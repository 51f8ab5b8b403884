use Rattle.std.proofs.Common.{◌≡◌, ◌+◌, ◌≤◌, drop, length}
use Rattle.group_run.proofs.LendLemmas.{IsHanding}
use Rattle.group_run.proofs.lending.hand_over.Given as goal

-- lines were made of what was asked so far
abbrev pub invariant-loop-ask : goal.invariant-loop-ask
invariant-loop-ask l = record {
  room : length l.asks ≤ l.ask-index + l.lines.spare;
  handing : IsHanding l.asks l.fn.members l.members (drop l.ask-index l.asks) l.lines.items;
  place : l.members.place ≡ l.fn.members.place;
}
