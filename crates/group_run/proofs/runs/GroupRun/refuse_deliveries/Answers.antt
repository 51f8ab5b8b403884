use Rattle.std.proofs.Common.{◌∙◌, ap, refl}
use Rattle.group_model.specs.declared.entries.Asked.TheVariants.{DeliverAll}
use Rattle.group_run.specs.Views.{View}
use Rattle.group_run.proofs.AddLemmas.{added}
use Rattle.group_run.proofs.KeptLemmas.{kept_silent, same_peers}
use Rattle.group_run.proofs.MailLemmas.{mail_still, members_still}
use Rattle.group_run.proofs.MoveLemmas.{mail_stays, rules_as, serves}
use Rattle.group_run.proofs.ServedLemmas.{silent_refused}
use Rattle.group_run.proofs.runs.GroupRun.refuse_deliveries.Goals as goal

pub refuse_deliveries-answer-requires : goal.refuse_deliveries-answer-requires
refuse_deliveries-answer-requires g c =
    ap (λ (at : View g.row.D.Denot g.row.G.Denot g.row.R.Denot). at.server.core.needs_reopen) c.self.view_is ∙ c.requires

pub invariant_of-self-2 : goal.invariant_of-self-2
invariant_of-self-2 g c =
    let kept = c.self.invariant in
    let done = c.refuse_deliveries-answer.ensures in
    kept_silent g.D.Disk g.R.Draws g.G.Signer c.what_is_known_stays_known.ensures
    (added c.in_ok-reserve.ensures.items c.draws_at-place.ensures c.entry.ensures c.add.ensures.items) done
    (same_peers c.self.inside.members.all) tt (silent_refused (done.each kept.host kept.is_on).1.answered) kept

pub returns-clause-ok : goal.returns-clause-ok
returns-clause-ok g c =
    let run = c.self.inside in
    let is = added c.in_ok-reserve.ensures.items c.draws_at-place.ensures c.entry.ensures c.add.ensures.items in
    serves g.D.Disk g.G.Signer g.R.Draws DeliverAll c.refuse_deliveries-answer.result c.self.view_is is c.refuse_deliveries-answer.ensures
    (members_still run.unread c.self.invariant.mail.within is run.members (record { none = refl }))

pub returns-clause-stays : goal.returns-clause-stays
returns-clause-stays g c =
    let run = c.self.inside in
    let is = added c.in_ok-reserve.ensures.items c.draws_at-place.ensures c.entry.ensures c.add.ensures.items in
    mail_stays c.self.view_is (rules_as c.self.view_is) refl (mail_still run.unread c.self.invariant.mail.within is (record { none = refl }))
