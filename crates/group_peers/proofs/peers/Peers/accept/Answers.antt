use Rattle.std.proofs.Common.{◌≡◌, ◌∙◌, ap, subst, sym, Some, refl, get_or}
use Rattle.std.specs.Prelude.{is_some}
use Rattle.std.specs.List.{position}
use Rattle.group_terms.specs.Logs.{Recorded}
use Rattle.group_peers.specs.declared.members.Peer.{Peer}
use Rattle.group_peers.specs.Peers.{is_named}
use Rattle.group_peers.specs.Private.Places.{no_peer, store_at}
use Rattle.group_peers.specs.Steps.{IsGiven, IsLeft}
use Rattle.group_peers.proofs.StepLemmas.{gives_named, invariant_stays, left_named, left_nobody, no_store}
use Rattle.group_peers.proofs.peers.Peers.accept.Goals as goal

pub invariant_of-self : goal.invariant_of-self
invariant_of-self g c =
    let at = c.give_at.ensures.step in
    let was = c.self.inside.list.items in
    let place = c.in-Some.place in
    invariant_stays was c.give_at.new.peers.items place (record (get_or was place no_peer) { store = at.kept }) c.self.inside.names.keys at.is refl
    (λ both. both) c.self.invariant

pub returns-in-Some-clause-step : goal.returns-in-Some-clause-step
returns-in-Some-clause-step g c =
    let items : c.self.inside.list.items ≡ c.args.self.now.items = ap (λ (peers : Recorded Peer). peers.items) c.self.view_is in
    let is = subst (λ peers. position (is_named c.args.member.now) peers ≡ Some c.in-Some.place) (sym items) (sym c.place.ensures.place ∙ c.in-Some.is) in
    subst (λ peers. IsGiven g.V.Verifier c.args.verifier.now peers c.args.member.now c.args.datagram.now c.give_at.result c.give_at.new.peers.items) items
    (gives_named g.V.Verifier c.args.verifier.now c.self.inside.list.items c.args.member.now c.args.datagram.now c.in-Some.place c.give_at.result
    c.give_at.new.peers.items c.self.invariant.0 is c.give_at.ensures.step)

pub returns-in-Some-clause-room : goal.returns-in-Some-clause-room
returns-in-Some-clause-room g c =
    let items : c.self.inside.list.items ≡ c.args.self.now.items = ap (λ (peers : Recorded Peer). peers.items) c.self.view_is in
    left_named g.V.Verifier c.args.verifier.now c.args.self.now.items c.args.member.now c.args.datagram.now c.in-Some.place c.args.room.now
    c.give_at.new.room (sym c.place.ensures.place ∙ c.in-Some.is)
    (subst (λ peers. IsLeft g.V.Verifier c.args.verifier.now (store_at peers c.in-Some.place) c.args.datagram.now c.args.room.now c.give_at.new.room) items
    c.give_at.ensures.room)

pub returns-in-None-clause-step : goal.returns-in-None-clause-step
returns-in-None-clause-step g c = (no_store c.args.self.now.items c.args.member.now (sym c.place.ensures.found ∙ ap is_some c.in-None.is), refl)

pub returns-in-None-clause-room : goal.returns-in-None-clause-room
returns-in-None-clause-room g c =
    left_nobody g.V.Verifier c.args.verifier.now c.args.self.now.items c.args.member.now c.args.datagram.now c.args.room.now c.args.room.now
    (sym c.place.ensures.found ∙ ap is_some c.in-None.is) refl
