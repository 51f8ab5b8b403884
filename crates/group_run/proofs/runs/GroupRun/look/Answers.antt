use Rattle.std.proofs.Common.{◌≡◌, ◌∙◌, List, ap, refl, sym, subst}
use Rattle.epoch_board.specs.Pairs.{last_pair}
use Rattle.group_model.specs.declared.entries.Entry.{Entry}
use Rattle.group_steps.specs.Questions.{answer_pair}
use Rattle.group_steps.specs.Shows.{pairs_shown}
use Rattle.group_run.specs.Private.Boards.{IsShown}
use Rattle.group_run.proofs.AddLemmas.{added}
use Rattle.group_run.proofs.KeptLemmas.{kept_acted, kept_as, kept_shown, same_peers}
use Rattle.group_run.proofs.MailLemmas.{mail_still, members_still}
use Rattle.group_run.proofs.MoveLemmas.{looks, mail_stays, rules_as}
use Rattle.group_run.proofs.runs.GroupRun.look.Goals as goal

pub look-seen-requires : goal.look-seen-requires
look-seen-requires g c =
    subst (IsShown c.self.inside.board) (sym (c.items.ensures ∙ c.in_ok-reserve.ensures.items)) c.self.invariant.shown

pub invariant_of-self-2 : goal.invariant_of-self-2
invariant_of-self-2 g c =
    let shown = subst (IsShown c.look-seen.new.self) (c.items.ensures ∙ c.in_ok-reserve.ensures.items) c.look-seen.ensures.shown in
    kept_acted g.D.Disk g.R.Draws c.what_is_known_stays_known.ensures {answer = answer_pair c.look-seen.result}
    (added c.in_ok-reserve.ensures.items c.draws_at-place.ensures c.entry.ensures c.add.ensures.items)
    (same_peers c.self.inside.members.all) (record { none = refl }) refl c.self.invariant.mail (kept_shown g.D.Disk g.R.Draws shown c.self.invariant)

pub returns-clause-ok : goal.returns-clause-ok
returns-clause-ok g c =
    let run = c.self.inside in
    let is = added c.in_ok-reserve.ensures.items c.draws_at-place.ensures c.entry.ensures c.add.ensures.items in
    looks g.D.Disk g.R.Draws c.look-seen.result c.self.view_is is
    (members_still run.unread c.self.invariant.mail.within is run.members (record { none = refl }))
    (c.look-seen.ensures.pair ∙ ap (λ (entries : List Entry). last_pair (pairs_shown entries)) (c.items.ensures ∙ c.in_ok-reserve.ensures.items))

pub returns-clause-stays : goal.returns-clause-stays
returns-clause-stays g c =
    let run = c.self.inside in
    let is = added c.in_ok-reserve.ensures.items c.draws_at-place.ensures c.entry.ensures c.add.ensures.items in
    mail_stays c.self.view_is (rules_as c.self.view_is) refl (mail_still run.unread c.self.invariant.mail.within is (record { none = refl }))
