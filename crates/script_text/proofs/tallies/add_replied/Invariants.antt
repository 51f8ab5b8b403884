use Rattle.std.proofs.Common.{◌≡◌, drop}
use Rattle.script_text.specs.Summary.{members_with}
use Rattle.script_text.proofs.tallies.add_replied.Given as goal

abbrev pub invariant-loop-reply : goal.invariant-loop-reply
invariant-loop-reply l = members_with l.members.keys (drop l.reply-index l.replies) ≡ members_with l.fn.members.keys l.replies
