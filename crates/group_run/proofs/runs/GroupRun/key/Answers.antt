use Rattle.std.proofs.Common.{refl, sym, subst}
use Rattle.group_model.specs.declared.entries.Asked.TheVariants.{Key}
use Rattle.group_peers.specs.Peers.{store_of}
use Rattle.member_steps.specs.Steps.{IsShowingKey}
use Rattle.group_run.proofs.AddLemmas.{added}
use Rattle.group_run.proofs.KeptLemmas.{kept_acted, same_peers}
use Rattle.group_run.proofs.MailLemmas.{mail_still, members_still}
use Rattle.group_run.proofs.MemberLemmas.{IsPlain, plain_key}
use Rattle.group_run.proofs.MoveLemmas.{acts_then, mail_stays, rules_as}
use Rattle.group_run.proofs.runs.GroupRun.key.Goals as goal

pub invariant_of-self-2 : goal.invariant_of-self-2
invariant_of-self-2 g c =
    let run = c.self.inside in
    let plain = subst IsPlain (sym c.key-answer.ensures) (plain_key (store_of run.members.all c.args.member.now)) in
    kept_acted g.D.Disk g.R.Draws c.what_is_known_stays_known.ensures
    (added c.in_ok-reserve.ensures.items c.draws_at-place.ensures c.entry.ensures c.add.ensures.items)
    (same_peers run.members.all) (record { none = refl }) plain.no_push c.self.invariant.mail c.self.invariant

pub returns-clause-ok : goal.returns-clause-ok
returns-clause-ok g c =
    let run = c.self.inside in
    let m = c.args.member.now in
    let plain = subst IsPlain (sym c.key-answer.ensures) (plain_key (store_of run.members.all m)) in
    let is = added c.in_ok-reserve.ensures.items c.draws_at-place.ensures c.entry.ensures c.add.ensures.items in
    acts_then g.D.Disk g.R.Draws (λ held. IsShowingKey m) (Key m) c.key-answer.result c.self.view_is is plain
    (members_still run.unread c.self.invariant.mail.within is run.members (record { none = refl })) (c.key-answer.ensures, refl)

pub returns-clause-stays : goal.returns-clause-stays
returns-clause-stays g c =
    let run = c.self.inside in
    let is = added c.in_ok-reserve.ensures.items c.draws_at-place.ensures c.entry.ensures c.add.ensures.items in
    mail_stays c.self.view_is (rules_as c.self.view_is) refl (mail_still run.unread c.self.invariant.mail.within is (record { none = refl }))
