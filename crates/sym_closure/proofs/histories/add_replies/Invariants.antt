use Rattle.std.proofs.Common.{◌≡◌, ◌++◌, take}
use Rattle.std.specs.List.{flat_map}
use Rattle.group_model.specs.declared.entries.SentReply.{SentReply}
use Rattle.group_model.specs.Derivations.{reply_pairs}
use Rattle.sym_closure.proofs.histories.add_replies.Given as goal

-- the replies so far
abbrev pub invariant-loop-reply : goal.invariant-loop-reply
invariant-loop-reply l = l.pairs ≡ l.fn.pairs ++ flat_map (λ (reply : SentReply). reply_pairs reply.says) (take l.reply-index l.replies)
