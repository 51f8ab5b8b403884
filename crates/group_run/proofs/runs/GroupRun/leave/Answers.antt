use Rattle.std.proofs.Common.{◌∙◌, refl, sym, ap, subst}
use Rattle.group_model.specs.declared.entries.Answer.{Answer}
use Rattle.group_model.specs.declared.entries.Asked.TheVariants.{Leave}
use Rattle.server_steps.specs.Sent.{pair_by}
use Rattle.server_steps.specs.Serves.{Serves}
use Rattle.group_run.proofs.AddLemmas.{added}
use Rattle.group_run.proofs.KeptLemmas.{kept_silent, same_peers}
use Rattle.group_run.proofs.MailLemmas.{mail_still, members_still}
use Rattle.group_run.proofs.MoveLemmas.{mail_stays, rules_quiet, serves}
use Rattle.group_run.proofs.ServedLemmas.{silent_done}
use Rattle.group_run.proofs.runs.GroupRun.leave.Goals as goal

pub invariant_of-self-2 : goal.invariant_of-self-2
invariant_of-self-2 g c =
    let run = c.self.inside in
    let m = c.args.member.now in
    kept_silent g.D.Disk g.R.Draws g.G.Signer c.what_is_known_stays_known.ensures
    (added c.in_ok-reserve.ensures.items c.draws_at-place.ensures c.entry.ensures c.add.ensures.items)
    (subst (λ (due : Answer). Serves g.D.Disk g.G.Signer g.R.Draws (Leave m) due run.server c.leave.new.self) (sym c.answer_done-answer.ensures) c.leave.ensures)
    (same_peers run.members.all) tt (ap pair_by c.answer_done-answer.ensures ∙ silent_done c.leave.result) c.self.invariant

pub returns-clause-ok : goal.returns-clause-ok
returns-clause-ok g c =
    let run = c.self.inside in
    let m = c.args.member.now in
    let is = added c.in_ok-reserve.ensures.items c.draws_at-place.ensures c.entry.ensures c.add.ensures.items in
    serves g.D.Disk g.G.Signer g.R.Draws (Leave m) c.answer_done-answer.result c.self.view_is is
    (subst (λ (due : Answer). Serves g.D.Disk g.G.Signer g.R.Draws (Leave m) due run.server c.leave.new.self) (sym c.answer_done-answer.ensures) c.leave.ensures)
    (members_still run.unread c.self.invariant.mail.within is run.members (record { none = refl }))

pub returns-clause-stays : goal.returns-clause-stays
returns-clause-stays g c =
    let run = c.self.inside in
    let kept = c.self.invariant in
    let m = c.args.member.now in
    let is = added c.in_ok-reserve.ensures.items c.draws_at-place.ensures c.entry.ensures c.add.ensures.items in
    let done = subst (λ (due : Answer). Serves g.D.Disk g.G.Signer g.R.Draws (Leave m) due run.server c.leave.new.self) (sym c.answer_done-answer.ensures) c.leave.ensures in
    mail_stays c.self.view_is
    (rules_quiet g.D.Disk g.G.Signer g.R.Draws c.answer_done-answer.result kept.host kept.is_on (Leave m) tt done c.self.view_is) refl
    (mail_still run.unread kept.mail.within is (record { none = refl }))
