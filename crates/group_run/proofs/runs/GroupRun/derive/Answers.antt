use Rattle.std.proofs.Common.{◌∙◌, List, Decides, refl, sym, subst}
use Rattle.group_terms.specs.Names.{Name}
use Rattle.group_terms.specs.declared.keys.KeyName.TheVariants.{Traffic}
use Rattle.group_model.specs.Derivations.{CanDerive, held_names, pairs_sent}
use Rattle.group_model.specs.declared.entries.Answer.TheVariants.{Derived}
use Rattle.sym_closure.specs.Knowledge.{Knows, KnowsAll}
use Rattle.group_run.proofs.AddLemmas.{added}
use Rattle.group_run.proofs.KeptLemmas.{kept_acted, kept_as, kept_known, same_peers}
use Rattle.group_run.proofs.MailLemmas.{mail_still, members_still}
use Rattle.group_run.proofs.MoveLemmas.{asks, mail_stays, rules_as}
use Rattle.group_run.proofs.runs.GroupRun.derive.Goals as goal

pub follow-requires : goal.follow-requires
follow-requires g c =
    subst (Knows c.self.inside.sent) (sym (c.items.ensures ∙ c.in_ok-reserve.ensures.items)) c.self.invariant.knows

pub invariant_of-self-in_err-follow : goal.invariant_of-self-in_err-follow
invariant_of-self-in_err-follow g c =
    let reserved = c.in_ok-reserve.ensures.items in
    kept_as g.D.Disk g.R.Draws reserved
    (kept_known g.D.Disk g.R.Draws (subst (Knows c.follow.new.self) (c.items.ensures ∙ reserved) c.in_err-follow.ensures.err) c.self.invariant)

pub invariant_of-self-in_err-yes : goal.invariant_of-self-in_err-yes
invariant_of-self-in_err-yes g c =
    let reserved = c.in_ok-reserve.ensures.items in
    kept_as g.D.Disk g.R.Draws reserved
    (kept_known g.D.Disk g.R.Draws (subst (Knows c.follow.new.self) (c.items.ensures ∙ reserved) c.in_ok-follow.ensures.ok.knows) c.self.invariant)

pub invariant_of-self-2 : goal.invariant_of-self-2
invariant_of-self-2 g c =
    let known = subst (Knows c.follow.new.self) (c.items.ensures ∙ c.in_ok-reserve.ensures.items) c.in_ok-follow.ensures.ok.knows in
    kept_acted g.D.Disk g.R.Draws c.what_is_known_stays_known.ensures {answer = Derived c.in_ok-yes.yes}
    (added c.in_ok-reserve.ensures.items c.draws_at-place.ensures c.entry.ensures c.add.ensures.items)
    (same_peers c.self.inside.members.all) (record { none = refl }) refl c.self.invariant.mail (kept_known g.D.Disk g.R.Draws known c.self.invariant)

pub returns-clause-ok : goal.returns-clause-ok
returns-clause-ok g c =
    let run = c.self.inside in
    let known = subst (KnowsAll c.follow.new.self) (c.items.ensures ∙ c.in_ok-reserve.ensures.items) c.in_ok-follow.ensures.ok in
    let epoch = c.args.epoch in
    let entries = run.entries.items in
    let yes = c.in_ok-yes.yes in
    let is = added c.in_ok-reserve.ensures.items c.draws_at-place.ensures c.entry.ensures c.add.ensures.items in
    asks g.D.Disk g.R.Draws epoch c.args.members yes c.self.view_is is
    (members_still run.unread c.self.invariant.mail.within is run.members (record { none = refl }))
    (subst (λ (names : List Name). Decides yes (CanDerive (held_names entries names) (pairs_sent entries) (Traffic epoch))) c.names.ensures.names
    (c.in_ok-yes.ensures entries known))

pub returns-clause-stays : goal.returns-clause-stays
returns-clause-stays g c =
    let run = c.self.inside in
    let is = added c.in_ok-reserve.ensures.items c.draws_at-place.ensures c.entry.ensures c.add.ensures.items in
    mail_stays c.self.view_is (rules_as c.self.view_is) refl (mail_still run.unread c.self.invariant.mail.within is (record { none = refl }))
