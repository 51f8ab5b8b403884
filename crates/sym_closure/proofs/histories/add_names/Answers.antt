use Rattle.std.proofs.Common.{[]}
use Rattle.group_model.specs.declared.entries.SentReply.{SentReply}
use Rattle.group_model.specs.Derivations.{names_to}
use Rattle.sym_closure.proofs.FirstLemmas.{Gains-next}
use Rattle.sym_closure.proofs.histories.add_names.Goals as goal

pub loop-reply-preserved : goal.loop-reply-preserved
loop-reply-preserved c =
    Gains-next (λ (reply : SentReply). names_to c.args.members.now reply.says) c.args.names.now c.loop-reply.names c.add_names_of.new.names [] c.args.replies.now c.loop-reply.reply-index c.reply-item.result
    c.loop-reply-test.true c.reply-item.is c.loop-reply.invariant c.in_ok-add_names_of.ensures
