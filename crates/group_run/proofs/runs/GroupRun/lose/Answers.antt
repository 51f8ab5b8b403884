use Rattle.std.proofs.Common.{[], refl}
use Rattle.group_model.specs.declared.entries.Asked.TheVariants.{Lose}
use Rattle.group_peers.specs.Peers.{was_introduced}
use Rattle.member_steps.specs.Steps.{IsLosing}
use Rattle.group_run.specs.Mails.{mail_since}
use Rattle.group_run.proofs.AddLemmas.{added}
use Rattle.group_run.proofs.KeptLemmas.{kept_acted, readable_by}
use Rattle.group_run.proofs.MailLemmas.{mail_still, members_still}
use Rattle.group_run.proofs.MemberLemmas.{has_lost, keeps_same}
use Rattle.group_run.proofs.MoveLemmas.{acts_then, mail_stays, rules_as}
use Rattle.group_run.proofs.runs.GroupRun.lose.Goals as goal

pub invariant_of-self-2 : goal.invariant_of-self-2
invariant_of-self-2 g c =
    let run = c.self.inside in
    let kept = c.self.invariant in
    let lost = has_lost (was_introduced run.members.all c.args.member.now) c.args.member.now _ c.lose-answer.result _ (c.lose-answer.ensures.loses []) in
    kept_acted g.D.Disk g.R.Draws c.what_is_known_stays_known.ensures
    (added c.in_ok-reserve.ensures.items c.draws_at-place.ensures c.entry.ensures c.add.ensures.items)
    (keeps_same lost.same) (record { none = refl }) lost.plain.no_push (readable_by (keeps_same lost.same) kept.mail) kept

pub returns-clause-ok : goal.returns-clause-ok
returns-clause-ok g c =
    let run = c.self.inside in
    let m = c.args.member.now in
    let mail = mail_since run.entries.items run.unread.place run.unread.taken in
    let is = added c.in_ok-reserve.ensures.items c.draws_at-place.ensures c.entry.ensures c.add.ensures.items in
    let lost = has_lost (was_introduced run.members.all m) m _ c.lose-answer.result _ (c.lose-answer.ensures.loses mail) in
    acts_then g.D.Disk g.R.Draws (λ held. IsLosing m) (Lose m) c.lose-answer.result c.self.view_is is lost.plain
    (members_still run.unread c.self.invariant.mail.within is c.lose-answer.new.self (record { none = refl })) (c.lose-answer.ensures.loses mail)

pub returns-clause-stays : goal.returns-clause-stays
returns-clause-stays g c =
    let run = c.self.inside in
    let is = added c.in_ok-reserve.ensures.items c.draws_at-place.ensures c.entry.ensures c.add.ensures.items in
    let lost = has_lost (was_introduced run.members.all c.args.member.now) c.args.member.now _ c.lose-answer.result _ (c.lose-answer.ensures.loses []) in
    mail_stays c.self.view_is (rules_as c.self.view_is) lost.place (mail_still run.unread c.self.invariant.mail.within is (record { none = refl }))
