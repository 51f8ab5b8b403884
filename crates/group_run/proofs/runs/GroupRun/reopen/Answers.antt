use Rattle.std.proofs.Common.{◌∙◌, ◌+◌, ◌<◌, ◌^◌, List, length, IfSome, refl, sym, ap, subst}
use Rattle.group_model.specs.declared.entries.Answer.{Answer}
use Rattle.group_model.specs.declared.entries.PushPair.{PushPair}
use Rattle.server_steps.specs.Sent.{pair_by}
use Rattle.group_run.proofs.ServedLemmas.{reopened_fits}
use Rattle.group_model.specs.declared.entries.Asked.TheVariants.{Reopen}
use Rattle.group_model.specs.declared.entries.Entry.{Entry}
use Rattle.group_run.specs.Private.Kept.{IsKept}
use Rattle.member_steps.specs.Views.{members_with}
use Rattle.group_run.proofs.AddLemmas.{added}
use Rattle.group_run.proofs.KeptLemmas.{kept_at_rest, kept_noted, same_peers}
use Rattle.group_run.proofs.MailLemmas.{nothing_unread_at}
use Rattle.group_run.proofs.MoveLemmas.{rules_quiet, rules_stay, serves}
use Rattle.group_run.proofs.runs.GroupRun.reopen.Goals as goal

pub note_pushes-requires-clause-fits : goal.note_pushes-requires-clause-fits
note_pushes-requires-clause-fits g c =
    let made = c.reopen-reopened.ensures.serves.each c.self.invariant.host c.self.invariant.is_on in
    subst (λ (answer : Answer). IfSome (pair_by answer) (λ (pair : PushPair). pair.first + 1 < 2 ^ 32))
    (sym (c.answer_reopened-answer.ensures made.0.server made.2.stands))
    (reopened_fits made.0.server c.reopen-reopened.result c.reopen-reopened.ensures.fits)

pub invariant_of-self-2 : goal.invariant_of-self-2
invariant_of-self-2 g c =
    let run = c.self.inside in
    let done = c.a_reopening_is_served.ensures c.reopen-reopened.result c.answer_reopened-answer.result run.server c.reopen-reopened.new.self
    c.reopen-reopened.ensures.serves c.answer_reopened-answer.ensures in
    let kept = kept_noted g.D.Disk g.R.Draws g.G.Signer c.what_is_known_stays_known.ensures
    (added c.in_ok-reserve.ensures.items c.draws_at-place.ensures c.entry.ensures c.add.ensures.items) done (same_peers run.members.all) tt
    c.in_ok-reserve-2.ensures.items (c.items.ensures ∙ c.in_ok-reserve.ensures.items)
    c.note_pushes.ensures.noted c.note_pushes.ensures.sent c.self.invariant in
    subst (λ (looked : List Entry). IsKept g.D.Disk g.R.Draws c.reopen-reopened.new.self run.members.all (record { place = length looked; taken = 0 }) run.sent
    c.note_pushes.new.pushes.items run.board c.add.new.self.items) (sym c.items-2.ensures) (kept_at_rest g.D.Disk g.R.Draws kept)

pub returns-clause-ok : goal.returns-clause-ok
returns-clause-ok g c =
    let run = c.self.inside in
    let done = c.a_reopening_is_served.ensures c.reopen-reopened.result c.answer_reopened-answer.result run.server c.reopen-reopened.new.self
    c.reopen-reopened.ensures.serves c.answer_reopened-answer.ensures in
    let is = added c.in_ok-reserve.ensures.items c.draws_at-place.ensures c.entry.ensures c.add.ensures.items in
    serves g.D.Disk g.G.Signer g.R.Draws Reopen c.answer_reopened-answer.result c.self.view_is is done
    (ap (members_with run.members) (nothing_unread_at c.add.new.self.items c.items-2.result.now c.items-2.ensures))

pub returns-clause-stays : goal.returns-clause-stays
returns-clause-stays g c =
    let run = c.self.inside in
    let kept = c.self.invariant in
    let done = c.a_reopening_is_served.ensures c.reopen-reopened.result c.answer_reopened-answer.result run.server c.reopen-reopened.new.self
    c.reopen-reopened.ensures.serves c.answer_reopened-answer.ensures in
    let is = added c.in_ok-reserve.ensures.items c.draws_at-place.ensures c.entry.ensures c.add.ensures.items in
    rules_stay c.self.view_is (rules_quiet g.D.Disk g.G.Signer g.R.Draws c.answer_reopened-answer.result kept.host kept.is_on Reopen tt done c.self.view_is) refl

pub returns-clause-rest : goal.returns-clause-rest
returns-clause-rest g c = nothing_unread_at c.add.new.self.items c.items-2.result.now c.items-2.ensures
