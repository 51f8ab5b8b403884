use Rattle.std.proofs.Common.{MatchOption, None, Some, sym, subst}
use Rattle.group_run.specs.Deliveries.{IsFirstDue, NoneIsDue}
use Rattle.group_run.specs.Private.Dues.{IsFirstFrom, NoneIsFrom}
use Rattle.group_run.specs.Views.{View}
use Rattle.group_run.proofs.DueLemmas.{next_later, next_of_all}
use Rattle.group_run.proofs.runs.GroupRun.next_delivery.Goals as goal

pub returns-in-Some : goal.returns-in-Some
returns-in-Some g c =
    let run = c.self.inside in
    let last = c.in-Some.last in
    let view = c.args.self.now in
    let found = c.first_due.result in
    subst (λ at. MatchOption found (NoneIsDue view.server.core.tree.holders view.members.all view.entries at)
    (IsFirstDue view.server.core.tree.holders view.members.all view.entries at))
    (sym c.in-Some.is)
    (subst (λ (view : View g.row.D.Denot g.row.G.Denot g.row.R.Denot).
    MatchOption found (NoneIsDue view.server.core.tree.holders view.members.all view.entries (Some last))
    (IsFirstDue view.server.core.tree.holders view.members.all view.entries (Some last)))
    c.self.view_is
    (next_later run.server.core.tree.holders run.members.all run.pushes.items run.entries.items c.self.invariant.noted c.self.invariant.sent_before last found
    (subst (λ peers. MatchOption found (NoneIsFrom run.server.core.tree.holders peers run.pushes.items last.place last.number)
    (IsFirstFrom run.server.core.tree.holders peers run.pushes.items last.place last.number)) c.all.ensures c.first_due.ensures)))

pub returns-in-None : goal.returns-in-None
returns-in-None g c =
    let run = c.self.inside in
    let view = c.args.self.now in
    let found = c.first_due-in-None.result in
    subst (λ at. MatchOption found (NoneIsDue view.server.core.tree.holders view.members.all view.entries at)
    (IsFirstDue view.server.core.tree.holders view.members.all view.entries at))
    (sym c.in-None.is)
    (subst (λ (view : View g.row.D.Denot g.row.G.Denot g.row.R.Denot).
    MatchOption found (NoneIsDue view.server.core.tree.holders view.members.all view.entries None)
    (IsFirstDue view.server.core.tree.holders view.members.all view.entries None))
    c.self.view_is
    (next_of_all run.server.core.tree.holders run.members.all run.pushes.items run.entries.items c.self.invariant.noted c.self.invariant.sent_before found
    (subst (λ peers. MatchOption found (NoneIsFrom run.server.core.tree.holders peers run.pushes.items 0 0)
    (IsFirstFrom run.server.core.tree.holders peers run.pushes.items 0 0)) c.all-in-None.ensures c.first_due-in-None.ensures)))
