use Rattle.std.proofs.Common.{◌≡◌, ◌∙◌, ◌+◌, ◌<◌, ◌^◌, IfSome, refl, sym, ap, subst}
use Rattle.group_model.specs.declared.entries.Answer.{Answer}
use Rattle.group_model.specs.declared.entries.Asked.TheVariants.{Batch}
use Rattle.group_model.specs.declared.entries.PushPair.{PushPair}
use Rattle.member_steps.specs.Views.{members_with}
use Rattle.server_steps.specs.Sent.{pair_by}
use Rattle.server_steps.specs.Serves.{Serves}
use Rattle.group_run.proofs.AddLemmas.{added}
use Rattle.group_run.proofs.KeptLemmas.{kept_noted, same_peers}
use Rattle.group_run.proofs.MailLemmas.{mail_after}
use Rattle.group_run.proofs.MoveLemmas.{rules_quiet, rules_stay, serves}
use Rattle.group_run.proofs.ServedLemmas.{batch_fits}
use Rattle.group_run.proofs.runs.GroupRun.batch.Goals as goal

pub note_pushes-requires-clause-fits : goal.note_pushes-requires-clause-fits
note_pushes-requires-clause-fits g c =
    subst (λ (answer : Answer). IfSome (pair_by answer) (λ (pair : PushPair). pair.first + 1 < 2 ^ 32)) (sym c.answer_batch-answer.ensures)
    (batch_fits c.batch.result c.batch.ensures.fits)

pub invariant_of-self-2 : goal.invariant_of-self-2
invariant_of-self-2 g c =
    let run = c.self.inside in
    kept_noted g.D.Disk g.R.Draws g.G.Signer c.what_is_known_stays_known.ensures
    (added c.in_ok-reserve.ensures.items c.draws_at-place.ensures c.entry.ensures c.add.ensures.items)
    (subst (λ (due : Answer). Serves g.D.Disk g.G.Signer g.R.Draws Batch due run.server c.batch.new.self) (sym c.answer_batch-answer.ensures) c.batch.ensures.serves)
    (same_peers run.members.all) tt
    c.in_ok-reserve-2.ensures.items (c.items.ensures ∙ c.in_ok-reserve.ensures.items)
    c.note_pushes.ensures.noted c.note_pushes.ensures.sent c.self.invariant

pub returns-clause-ok : goal.returns-clause-ok
returns-clause-ok g c =
    let run = c.self.inside in
    let is = added c.in_ok-reserve.ensures.items c.draws_at-place.ensures c.entry.ensures c.add.ensures.items in
    serves g.D.Disk g.G.Signer g.R.Draws Batch c.answer_batch-answer.result c.self.view_is is
    (subst (λ (due : Answer). Serves g.D.Disk g.G.Signer g.R.Draws Batch due run.server c.batch.new.self) (sym c.answer_batch-answer.ensures) c.batch.ensures.serves)
    (ap (members_with run.members) (mail_after run.unread c.self.invariant.mail.within is))

pub returns-clause-stays : goal.returns-clause-stays
returns-clause-stays g c =
    let run = c.self.inside in
    let kept = c.self.invariant in
    let is = added c.in_ok-reserve.ensures.items c.draws_at-place.ensures c.entry.ensures c.add.ensures.items in
    let done = subst (λ (due : Answer). Serves g.D.Disk g.G.Signer g.R.Draws Batch due run.server c.batch.new.self) (sym c.answer_batch-answer.ensures)
    c.batch.ensures.serves in
    rules_stay c.self.view_is (rules_quiet g.D.Disk g.G.Signer g.R.Draws c.answer_batch-answer.result kept.host kept.is_on Batch tt done c.self.view_is) refl
