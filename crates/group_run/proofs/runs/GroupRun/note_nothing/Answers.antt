use Rattle.std.proofs.Common.{◌≡◌, ◌∙◌, None, refl, ap}
use Rattle.group_model.specs.declared.entries.Answer.TheVariants.{Nothing}
use Rattle.group_model.specs.declared.entries.Asked.TheVariants.{Again}
use Rattle.group_peers.specs.Peers.{sent_by}
use Rattle.member_steps.specs.Steps.{HasSentNothing}
use Rattle.group_run.specs.Views.{View}
use Rattle.group_run.proofs.AddLemmas.{added}
use Rattle.group_run.proofs.KeptLemmas.{kept_acted, same_peers}
use Rattle.group_run.proofs.MailLemmas.{members_still}
use Rattle.group_run.proofs.MoveLemmas.{acts_then}
use Rattle.group_run.proofs.runs.GroupRun.note_nothing.Goals as goal

pub invariant_of-self-2 : goal.invariant_of-self-2
invariant_of-self-2 g c =
    kept_acted g.D.Disk g.R.Draws c.what_is_known_stays_known.ensures {answer = Nothing}
    (added c.in_ok-reserve.ensures.items c.draws_at-place.ensures c.entry.ensures c.add.ensures.items)
    (same_peers c.self.inside.members.all) (record { none = refl }) refl c.self.invariant.mail c.self.invariant

pub returns-clause-ok : goal.returns-clause-ok
returns-clause-ok g c =
    let run = c.self.inside in
    let m = c.args.member.now in
    let none : sent_by run.members.all m ≡ None =
    ap (λ (held : View g.row.D.Denot g.row.G.Denot g.row.R.Denot). sent_by held.members.all m) c.self.view_is ∙ c.requires in
    let is = added c.in_ok-reserve.ensures.items c.draws_at-place.ensures c.entry.ensures c.add.ensures.items in
    acts_then g.D.Disk g.R.Draws (λ held. HasSentNothing m) (Again m) Nothing c.self.view_is is (record { no_fault = refl; not_opened = refl; no_push = refl })
    (members_still run.unread c.self.invariant.mail.within is run.members (record { none = refl })) (record { nothing = none; answers = refl; stays = refl })
