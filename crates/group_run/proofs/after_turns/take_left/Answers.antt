use Rattle.std.proofs.Common.{◌∙◌, refl, ap}
use Rattle.group_peers.specs.Peers.{is_peer}
use Rattle.member_steps.specs.Members.{Mail}
use Rattle.group_run.proofs.AfterLemmas.{mail_there, marked_names, taken_at, taken_names}
use Rattle.group_run.proofs.after_turns.take_left.Goals as goal

pub take_mail-requires : goal.take_mail-requires
take_mail-requires c =
    let is = c.requires.0 in
    marked_names c.args.members.now c.mark_loss.new.members c.in-Some.mail.0 c.as_slice.result.now c.args.left.now.lost c.mark_loss.ensures c.in-Some.mail.0
    ∙ ap (λ (mail : Mail). is_peer c.args.members.now.all mail.0)
    (mail_there c.args.entries.now c.args.left.now is (c.in-Some.mail.0, c.in-Some.mail.1.now) c.requires.1.there c.in-Some.ensures)
    ∙ c.requires.1.to_peer

pub returns-clause-takes : goal.returns-clause-takes
returns-clause-takes c =
    taken_at c.args.members.now c.mark_loss.new.members c.in-Some.mail.0 c.as_slice.result.now c.args.left.now.lost
    c.mark_loss.ensures c.take_mail.result c.take_mail.new.members c.take_mail.ensures.takes c.args.entries.now c.args.left.now c.in-Some.mail.1.now refl c.as_slice.ensures c.in-Some.ensures

pub returns-clause-peers : goal.returns-clause-peers
returns-clause-peers c name =
    taken_names c.args.members.now c.mark_loss.new.members c.in-Some.mail.0 c.as_slice.result.now c.args.left.now.lost
    c.mark_loss.ensures c.take_mail.result c.take_mail.new.members c.take_mail.ensures.takes c.take_mail.ensures.err name
    ∙ marked_names c.args.members.now c.mark_loss.new.members c.in-Some.mail.0 c.as_slice.result.now c.args.left.now.lost c.mark_loss.ensures name
