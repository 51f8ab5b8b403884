use Rattle.std.proofs.Common.{refl}
use Rattle.group_model.specs.declared.entries.Answer.TheVariants.{Done}
use Rattle.group_model.specs.declared.entries.Asked.TheVariants.{Halt}
use Rattle.group_run.proofs.AddLemmas.{added}
use Rattle.group_run.proofs.KeptLemmas.{kept_silent, same_peers}
use Rattle.group_run.proofs.MailLemmas.{mail_still, members_still}
use Rattle.group_run.proofs.MoveLemmas.{mail_stays, rules_quiet, serves}
use Rattle.group_run.proofs.runs.GroupRun.halt.Goals as goal

pub invariant_of-self-2 : goal.invariant_of-self-2
invariant_of-self-2 g c =
    kept_silent g.D.Disk g.R.Draws g.G.Signer c.what_is_known_stays_known.ensures {answer = Done}
    (added c.in_ok-reserve.ensures.items c.draws_at-place.ensures c.entry.ensures c.add.ensures.items) c.halt.ensures
    (same_peers c.self.inside.members.all) tt refl c.self.invariant

pub returns-clause-ok : goal.returns-clause-ok
returns-clause-ok g c =
    let run = c.self.inside in
    let is = added c.in_ok-reserve.ensures.items c.draws_at-place.ensures c.entry.ensures c.add.ensures.items in
    serves g.D.Disk g.G.Signer g.R.Draws Halt Done c.self.view_is is c.halt.ensures
    (members_still run.unread c.self.invariant.mail.within is run.members (record { none = refl }))

pub returns-clause-stays : goal.returns-clause-stays
returns-clause-stays g c =
    let run = c.self.inside in
    let kept = c.self.invariant in
    let is = added c.in_ok-reserve.ensures.items c.draws_at-place.ensures c.entry.ensures c.add.ensures.items in
    mail_stays c.self.view_is (rules_quiet g.D.Disk g.G.Signer g.R.Draws Done kept.host kept.is_on Halt tt c.halt.ensures c.self.view_is) refl
    (mail_still run.unread kept.mail.within is (record { none = refl }))
