use Rattle.std.proofs.Common.{◌≡◌, drop}
use Rattle.script_text.specs.Summary.{members_without}
use Rattle.script_text.proofs.tallies.remove_all.Given as goal

abbrev pub invariant-loop-member : goal.invariant-loop-member
invariant-loop-member l = members_without l.members.keys (drop l.member-index l.leaving) ≡ members_without l.fn.members.keys l.leaving
