use Rattle.std.proofs.Common.{◌∙◌, ◌++◌, ◌∷◌, [], sym, ap, subst}
use Rattle.server_steps.specs.Sent.{pair_by}
use Rattle.group_run.specs.Private.Noted.{AreNoted, WereSent}
use Rattle.group_run.proofs.SentLemmas.{noted_more, noted_still, sent_more, sent_same, with_pair}
use Rattle.group_run.proofs.sending.note_pushes.Goals as goal

pub returns-in_default-clause-noted : goal.returns-in_default-clause-noted
returns-in_default-clause-noted c entries entry same at noted =
    noted_still c.args.pushes.now.items entries entry (ap pair_by same ∙ sym c.in_default.ensures) noted

pub returns-in_default-clause-sent : goal.returns-in_default-clause-sent
returns-in_default-clause-sent c entries entry same at sent = sent_same c.args.pushes.now.items entries entry sent

pub returns-clause-noted : goal.returns-clause-noted
returns-clause-noted c entries entry same at noted =
    let pair = c.in-Some.pair.now in
    let notes = c.args.pushes.now.items in
    subst (λ new. AreNoted new (entries ++ entry ∷ [])) (ap (with_pair notes pair) at ∙ sym c.note_pair.ensures.items)
    (noted_more c.a_noted_push_is_found.ensures notes entries entry pair (ap pair_by same ∙ sym c.in-Some.ensures) noted)

pub returns-clause-sent : goal.returns-clause-sent
returns-clause-sent c entries entry same at sent =
    let pair = c.in-Some.pair.now in
    let notes = c.args.pushes.now.items in
    subst (λ new. WereSent new (entries ++ entry ∷ [])) (sym c.note_pair.ensures.items)
    (sent_more notes entries entry pair c.args.place (ap pair_by same ∙ sym c.in-Some.ensures) sent)
