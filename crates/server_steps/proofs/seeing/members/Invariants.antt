use Rattle.std.proofs.Common.{◌≡◌, ◌+◌, ◌≤◌}
use Rattle.std.specs.List.{range_with_len}
use Rattle.server_steps.specs.Private.Standings.{standings_among}
use Rattle.server_steps.proofs.seeing.members.Given as goal

abbrev pub invariant-loop-place : goal.invariant-loop-place
invariant-loop-place g l = record {
  items : l.room.items ≡ standings_among l.core.tree.depth l.core.tree.holders (range_with_len l.leaves l.place);
  spare : l.leaves ≤ l.room.spare + l.place;
}
