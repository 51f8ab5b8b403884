use Rattle.std.proofs.Common.{refl}
use Rattle.group_steps.specs.Questions.{answer_pair}
use Rattle.group_run.proofs.AddLemmas.{added}
use Rattle.group_run.proofs.KeptLemmas.{kept_acted, same_peers}
use Rattle.group_run.proofs.MailLemmas.{members_still}
use Rattle.group_run.proofs.ReachLemmas.{looked}
use Rattle.group_run.proofs.runs.GroupRun.note_look.Goals as goal

pub invariant_of-self-2 : goal.invariant_of-self-2
invariant_of-self-2 g c =
    kept_acted g.D.Disk g.R.Draws c.what_is_known_stays_known.ensures {answer = answer_pair c.args.seen}
    (added c.in_ok-reserve.ensures.items c.draws_at-place.ensures c.entry.ensures c.add.ensures.items)
    (same_peers c.self.inside.members.all) (record { none = refl }) refl c.self.invariant.mail c.self.invariant

pub returns-clause-ok : goal.returns-clause-ok
returns-clause-ok g c =
    let run = c.self.inside in
    let is = added c.in_ok-reserve.ensures.items c.draws_at-place.ensures c.entry.ensures c.add.ensures.items in
    looked g.D.Disk g.R.Draws c.args.seen c.self.view_is is
    (members_still run.unread c.self.invariant.mail.within is run.members (record { none = refl })) c.requires
