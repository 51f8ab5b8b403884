use Rattle.std.proofs.Common.{◌≡◌, ◌∙◌, ◌<◌, length, refl, sym, ap, subst}
use Rattle.group_model.specs.declared.entries.Answer.{Answer}
use Rattle.group_model.specs.declared.entries.Asked.TheVariants.{AddRule}
use Rattle.server_steps.specs.Sent.{pair_by}
use Rattle.server_steps.specs.Serves.{Serves}
use Rattle.group_run.specs.Views.{View}
use Rattle.group_run.proofs.AddLemmas.{added}
use Rattle.group_run.proofs.KeptLemmas.{kept_silent, same_peers}
use Rattle.group_run.proofs.MailLemmas.{members_still}
use Rattle.group_run.proofs.MoveLemmas.{adds_rule, serves, takes_rule}
use Rattle.group_run.proofs.ServedLemmas.{silent_rule}
use Rattle.group_run.proofs.runs.GroupRun.add_rule.Goals as goal

pub add_rule-requires : goal.add_rule-requires
add_rule-requires g c =
    subst (λ (at : View g.row.D.Denot g.row.G.Denot g.row.R.Denot). length at.server.rules < 4294967295) (sym c.self.view_is) c.requires

pub invariant_of-self-2 : goal.invariant_of-self-2
invariant_of-self-2 g c =
    let run = c.self.inside in
    let rule = c.args.rule in
    kept_silent g.D.Disk g.R.Draws g.G.Signer c.what_is_known_stays_known.ensures
    (added c.in_ok-reserve.ensures.items c.draws_at-place.ensures c.entry.ensures c.add.ensures.items)
    (subst (λ (due : Answer). Serves g.D.Disk g.G.Signer g.R.Draws (AddRule rule) due run.server c.add_rule.new.self) (sym c.answer_rule-answer.ensures) c.add_rule.ensures)
    (same_peers run.members.all) tt (ap pair_by c.answer_rule-answer.ensures ∙ silent_rule c.add_rule.result) c.self.invariant

pub returns-clause-ok : goal.returns-clause-ok
returns-clause-ok g c =
    let run = c.self.inside in
    let rule = c.args.rule in
    let is = added c.in_ok-reserve.ensures.items c.draws_at-place.ensures c.entry.ensures c.add.ensures.items in
    serves g.D.Disk g.G.Signer g.R.Draws (AddRule rule) c.answer_rule-answer.result c.self.view_is is
    (subst (λ (due : Answer). Serves g.D.Disk g.G.Signer g.R.Draws (AddRule rule) due run.server c.add_rule.new.self) (sym c.answer_rule-answer.ensures) c.add_rule.ensures)
    (members_still run.unread c.self.invariant.mail.within is run.members (record { none = refl }))

pub returns-clause-rules : goal.returns-clause-rules
returns-clause-rules g c =
    let run = c.self.inside in
    let kept = c.self.invariant in
    let rule = c.args.rule in
    let is = added c.in_ok-reserve.ensures.items c.draws_at-place.ensures c.entry.ensures c.add.ensures.items in
    let done = subst (λ (due : Answer). Serves g.D.Disk g.G.Signer g.R.Draws (AddRule rule) due run.server c.add_rule.new.self) (sym c.answer_rule-answer.ensures) c.add_rule.ensures in
    adds_rule rule c.self.view_is is (takes_rule g.D.Disk g.G.Signer g.R.Draws c.answer_rule-answer.result kept.host kept.is_on rule done)

pub returns-clause-members : goal.returns-clause-members
returns-clause-members g c =
    let run = c.self.inside in
    let is = added c.in_ok-reserve.ensures.items c.draws_at-place.ensures c.entry.ensures c.add.ensures.items in
    members_still run.unread c.self.invariant.mail.within is run.members (record { none = refl })
    ∙ ap (λ (at : View g.row.D.Denot g.row.G.Denot g.row.R.Denot). at.members) c.self.view_is
