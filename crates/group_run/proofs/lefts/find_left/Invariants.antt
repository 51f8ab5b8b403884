use Rattle.std.proofs.Common.{◌≤◌, drop}
use Rattle.group_run.specs.Private.Lefts.{AreLefts, AreServed}
use Rattle.group_run.proofs.lefts.find_left.Given as goal

-- what the turns from this place on left, and whom they serve
abbrev pub invariant-loop-place : goal.invariant-loop-place
invariant-loop-place l = record {
  within : l.first ≤ l.place;
  lefts : AreLefts l.members.all l.entries l.lefts (drop l.place l.entries);
  served : AreServed l.served.keys (drop l.place l.entries);
}
