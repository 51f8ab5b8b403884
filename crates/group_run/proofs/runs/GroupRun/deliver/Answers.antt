use Rattle.std.proofs.Common.{◌≡◌, ◌∙◌, [], Option, List, ℕ, length, option_copied, refl, sym, ap, subst}
use Rattle.group_model.specs.declared.entries.Asked.TheVariants.{Deliver}
use Rattle.group_peers.specs.Peers.{store_of}
use Rattle.group_steps.specs.Steps.{push_sent}
use Rattle.member_steps.specs.Steps.{IsDelivery}
use Rattle.member_steps.specs.Views.{members_with}
use Rattle.group_run.specs.Mails.{mail_since}
use Rattle.group_run.specs.Private.Noted.{AreNoted}
use Rattle.group_run.specs.Views.{View}
use Rattle.group_run.proofs.AddLemmas.{added}
use Rattle.group_run.proofs.KeptLemmas.{kept_acted, readable_by}
use Rattle.group_run.proofs.MailLemmas.{mail_still, members_still}
use Rattle.group_run.proofs.MemberLemmas.{has_given, keeps_same}
use Rattle.group_run.proofs.MoveLemmas.{acts_then, mail_stays, rules_as}
use Rattle.group_run.proofs.runs.GroupRun.deliver.Goals as goal

pub last_push-push-requires : goal.last_push-push-requires
last_push-push-requires g c =
    subst (AreNoted c.self.inside.pushes.items) (sym (c.items.ensures ∙ c.in_ok-reserve.ensures.items)) c.self.invariant.noted

pub invariant_of-self-2 : goal.invariant_of-self-2
invariant_of-self-2 g c =
    let run = c.self.inside in
    let m = c.args.member.now in
    let given = has_given g.V.Verifier c.args.verifier.now m _ c.deliver-answer.result _ (store_of run.members.all m) (option_copied c.last_push-push.result)
    (c.deliver-answer.ensures.step []) in
    kept_acted g.D.Disk g.R.Draws c.what_is_known_stays_known.ensures
    (added c.in_ok-reserve.ensures.items c.draws_at-place.ensures c.entry.ensures c.add.ensures.items)
    (keeps_same given.same) (record { none = refl }) given.plain.no_push (readable_by (keeps_same given.same) c.self.invariant.mail) c.self.invariant

pub returns-clause-ok : goal.returns-clause-ok
returns-clause-ok g c =
    let run = c.self.inside in
    let m = c.args.member.now in
    let number = c.args.number in
    let mail = mail_since run.entries.items run.unread.place run.unread.taken in
    let is = added c.in_ok-reserve.ensures.items c.draws_at-place.ensures c.entry.ensures c.add.ensures.items in
    let given = has_given g.V.Verifier c.args.verifier.now m _ c.deliver-answer.result _ (store_of run.members.all m) (option_copied c.last_push-push.result)
    (c.deliver-answer.ensures.step mail) in
    let push : option_copied c.last_push-push.result ≡ push_sent run.entries.items number =
    c.last_push-push.ensures ∙ ap (λ entries. push_sent entries number) (c.items.ensures ∙ c.in_ok-reserve.ensures.items) in
    acts_then g.D.Disk g.R.Draws
    (λ (held : View g.row.D.Denot g.row.G.Denot g.row.R.Denot). IsDelivery g.V.Verifier c.args.verifier.now m (push_sent held.entries number)) (Deliver m number)
    c.deliver-answer.result c.self.view_is is given.plain
    (members_still run.unread c.self.invariant.mail.within is c.deliver-answer.new.self (record { none = refl }))
    (subst (λ (push : Option (List ℕ)). IsDelivery g.V.Verifier c.args.verifier.now m push (members_with run.members mail) c.deliver-answer.result
    (members_with c.deliver-answer.new.self mail)) push (c.deliver-answer.ensures.step mail))

pub returns-clause-peers : goal.returns-clause-peers
returns-clause-peers g c =
    let run = c.self.inside in
    let m = c.args.member.now in
    let given = has_given g.V.Verifier c.args.verifier.now m _ c.deliver-answer.result _ (store_of run.members.all m) (option_copied c.last_push-push.result)
    (c.deliver-answer.ensures.step []) in
    given.same.count ∙ ap (λ (held : View g.row.D.Denot g.row.G.Denot g.row.R.Denot). length held.members.all) c.self.view_is

pub returns-clause-stays : goal.returns-clause-stays
returns-clause-stays g c =
    let run = c.self.inside in
    let m = c.args.member.now in
    let is = added c.in_ok-reserve.ensures.items c.draws_at-place.ensures c.entry.ensures c.add.ensures.items in
    let given = has_given g.V.Verifier c.args.verifier.now m _ c.deliver-answer.result _ (store_of run.members.all m) (option_copied c.last_push-push.result)
    (c.deliver-answer.ensures.step []) in
    mail_stays c.self.view_is (rules_as c.self.view_is) given.place (mail_still run.unread c.self.invariant.mail.within is (record { none = refl }))
