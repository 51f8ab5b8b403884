use Rattle.std.proofs.Common.{◌∙◌, ap, subst, sym, None, Some}
use Rattle.std.specs.Prelude.{Err}
use Rattle.group_terms.specs.declared.pushes.PushRefusal.TheVariants.{NoPath}
use Rattle.kd_wire.specs.Spans.{span_arrays}
use Rattle.member_store.specs.Private.Openings.{HasOpening}
use Rattle.member_store.specs.Private.Paths.{IsNewPath}
use Rattle.member_store.specs.Steps.{IsAcceptance}
use Rattle.member_store.specs.Stores.{Store, leaf_of, root_epoch}
use Rattle.member_store.specs.Takings.{keys_given}
use Rattle.member_store.proofs.AcceptLemmas.{goes_up, has_read, no_path, of_epoch, of_store, refused, takes_traffic}
use Rattle.member_store.proofs.stores.MemberStore.accept.Goals as goal

pub returns-in-Err-clause-step : goal.returns-in-Err-clause-step
returns-in-Err-clause-step g c =
    let has = c.open.ensures c.self.inside.traffic c.self.inside.traffic_epoch in
    subst (λ store. IsAcceptance g.V.Verifier c.args.verifier.now store c.args.datagram.now (Err c.in-Err.why) store) c.self.view_is
    (refused _ _ _ _ _ _ c.in-Err.why has c.in-Err.is)

pub returns-in-Err-clause-room : goal.returns-in-Err-clause-room
returns-in-Err-clause-room g c =
    let has = c.open.ensures c.self.inside.traffic c.self.inside.traffic_epoch in
    let now = subst (λ store. HasOpening g.V.Verifier c.args.verifier.now store c.args.datagram.now c.open.result c.open.new.room)
    c.self.view_is has in
    (now.opening, now.is_opening, now.left)

pub returns-in_default-clause-room : goal.returns-in_default-clause-room
returns-in_default-clause-room g c =
    let has = c.open.ensures c.self.inside.traffic c.self.inside.traffic_epoch in
    let now = subst (λ store. HasOpening g.V.Verifier c.args.verifier.now store c.args.datagram.now c.open.result c.open.new.room)
    c.self.view_is has in
    (now.opening, now.is_opening, now.left)

pub returns-in-Some-clause-room : goal.returns-in-Some-clause-room
returns-in-Some-clause-room g c =
    let has = c.open.ensures c.self.inside.traffic c.self.inside.traffic_epoch in
    let now = subst (λ store. HasOpening g.V.Verifier c.args.verifier.now store c.args.datagram.now c.open.result c.open.new.room)
    c.self.view_is has in
    (now.opening, now.is_opening, now.left)

pub returns-in-Traffic-clause-room : goal.returns-in-Traffic-clause-room
returns-in-Traffic-clause-room g c =
    let has = c.open.ensures c.self.inside.traffic c.self.inside.traffic_epoch in
    let now = subst (λ store. HasOpening g.V.Verifier c.args.verifier.now store c.args.datagram.now c.open.result c.open.new.room)
    c.self.view_is has in
    (now.opening, now.is_opening, now.left)

pub returns-in_default-clause-step : goal.returns-in_default-clause-step
returns-in_default-clause-step g c =
    let has = c.open.ensures c.self.inside.traffic c.self.inside.traffic_epoch in
    let read = has_read _ _ _ _ _ c.in-Ok.open _ has c.in-Ok.is in
    let new = subst (λ body. IsNewPath c.self.inside.path (keys_given (span_arrays c.in-Membership.span body)) None)
    c.text.ensures c.in_default.ensures.new in
    let step = no_path _ _ _ _ _ _ read c.in-Membership.root_made c.in-Membership.span c.in-Membership.is new in
    subst (λ leaf. IsAcceptance g.V.Verifier c.args.verifier.now c.args.self.now c.args.datagram.now (Err (NoPath leaf)) c.args.self.now)
    (sym c.leaf.ensures)
    (subst (λ (store : Store). IsAcceptance g.V.Verifier c.args.verifier.now store c.args.datagram.now (Err (NoPath (leaf_of store.path))) store)
    c.self.view_is step)

pub returns-in-Some-clause-step : goal.returns-in-Some-clause-step
returns-in-Some-clause-step g c =
    let has = c.open.ensures c.self.inside.traffic c.self.inside.traffic_epoch in
    let read = has_read _ _ _ _ _ c.in-Ok.open _ has c.in-Ok.is in
    let new = subst (λ body. IsNewPath c.self.inside.path (keys_given (span_arrays c.in-Membership.span body)) (Some c.in-Some.path))
    c.text.ensures c.in-Some.ensures.new in
    let step = goes_up _ _ _ _ _ _ read c.in-Membership.root_made c.in-Membership.span c.in-Membership.is c.in-Some.path new in
    of_epoch c.root_epoch.ensures (of_store c.self.view_is step)

pub returns-in-Traffic-clause-step : goal.returns-in-Traffic-clause-step
returns-in-Traffic-clause-step g c =
    let has = c.open.ensures c.self.inside.traffic c.self.inside.traffic_epoch in
    let read = has_read _ _ _ _ _ c.in-Ok.open _ has c.in-Ok.is in
    let is_epoch = c.root_epoch-epoch.ensures ∙ ap root_epoch (sym c.self.view_is) in
    of_store c.self.view_is (takes_traffic _ _ _ _ _ _ read c.in-Traffic.traffic c.root_epoch-epoch.result c.in-Traffic.is is_epoch)

pub invariant_of-self : goal.invariant_of-self
invariant_of-self g c = c.in-Some.ensures.path c.self.invariant
