use Rattle.std.proofs.Common.{◌∙◌}
use Rattle.std.proofs.lemmas.Result.{IfOk-weaker}
use Rattle.server_steps.proofs.ReplyLemmas.{says_one}
use Rattle.server_steps.proofs.replying.reply_says.Goals as goal

pub returns : goal.returns
returns c depth spi list is =
    IfOk-weaker c.names_told.result _ _ (λ reply same. same ∙ says_one depth spi list c.args.member.now c.args.keyed.now is) c.names_told.ensures
