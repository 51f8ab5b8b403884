use Rattle.std.proofs.Common.{◌≡◌, ◌++◌, take}
use Rattle.std.specs.List.{flat_map}
use Rattle.script_text.specs.Report.{reply_line}
use Rattle.script_text.proofs.messages.append_replies.Given as goal

-- the lines of the replies that it went over
abbrev pub invariant-loop-reply : goal.invariant-loop-reply
invariant-loop-reply l = l.out ≡ l.initial.out ++ flat_map reply_line (take l.reply-index l.replies)
