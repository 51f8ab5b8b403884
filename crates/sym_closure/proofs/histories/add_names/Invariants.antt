use Rattle.std.proofs.Common.{take}
use Rattle.std.specs.List.{flat_map}
use Rattle.group_model.specs.declared.entries.SentReply.{SentReply}
use Rattle.group_model.specs.Derivations.{names_to}
use Rattle.sym_closure.specs.Private.Gains.{Gains}
use Rattle.sym_closure.proofs.histories.add_names.Given as goal

-- what was added so far
abbrev pub invariant-loop-reply : goal.invariant-loop-reply
invariant-loop-reply l = Gains l.fn.names (flat_map (λ (reply : SentReply). names_to l.fn.members reply.says) (take l.reply-index l.fn.replies)) l.names
