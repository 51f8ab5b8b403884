use Rattle.std.proofs.Common.{◌∙◌, refl, ap}
use Rattle.group_run.proofs.AddLemmas.{added}
use Rattle.group_run.proofs.BeginLemmas.{reaches_mark, unsent_done}
use Rattle.group_run.proofs.KeptLemmas.{kept_acted, same_peers}
use Rattle.group_run.proofs.MailLemmas.{mail_still, members_still}
use Rattle.group_run.proofs.MoveLemmas.{marks}
use Rattle.group_run.specs.Views.{View}
use Rattle.group_run.proofs.runs.GroupRun.mark.Goals as goal

pub invariant_of-self-2 : goal.invariant_of-self-2
invariant_of-self-2 g c =
    kept_acted g.D.Disk g.R.Draws c.what_is_known_stays_known.ensures
    (added c.in_ok-reserve.ensures.items c.draws_at-place.ensures c.entry.ensures c.add.ensures.items)
    (same_peers c.self.inside.members.all) (unsent_done c.args.asked) refl c.self.invariant.mail c.self.invariant

pub returns-clause-ok : goal.returns-clause-ok
returns-clause-ok g c =
    let run = c.self.inside in
    let is = added c.in_ok-reserve.ensures.items c.draws_at-place.ensures c.entry.ensures c.add.ensures.items in
    let unsent = unsent_done c.args.asked in
    let within = c.self.invariant.mail.within in
    reaches_mark g.D.Disk g.R.Draws
    (marks g.D.Disk g.R.Draws c.args.asked c.self.view_is is (members_still run.unread within is run.members unsent))
    (mail_still run.unread within is unsent ∙ ap (λ (held : View g.row.D.Denot g.row.G.Denot g.row.R.Denot). held.members.mail) c.self.view_is)
