use Rattle.std.proofs.Common.{◌≡◌, ◌∙◌, ap, get_or, Some, subst, sym}
use Rattle.std.specs.Prelude.{OnErr}
use Rattle.std.specs.List.{position}
use Rattle.group_terms.specs.Logs.{Recorded}
use Rattle.group_peers.specs.declared.members.Peer.{Peer}
use Rattle.group_peers.specs.Peers.{is_named}
use Rattle.group_peers.specs.Private.Places.{no_peer}
use Rattle.group_peers.specs.Pulls.{Takes}
use Rattle.group_peers.proofs.StepLemmas.{both_taken, failed_there, ignored_there, invariant_stays, same_phase, takes_named}
use Rattle.group_peers.proofs.peers.Peers.take.Goals as goal

pub unwrap-place-requires : goal.unwrap-place-requires
unwrap-place-requires c = c.place.ensures.found ∙ c.requires.peer

pub invariant_of-self : goal.invariant_of-self
invariant_of-self c =
    let at = c.take_at.ensures.takes in
    let was = c.self.inside.list.items in
    let place = c.unwrap-place.result in
    invariant_stays was c.take_at.new.peers.items place at.after c.self.inside.names.keys at.is
    (same_phase c.args.datagram.now (get_or was place no_peer) at.after c.take_at.result at.takes)
    (both_taken c.args.datagram.now (get_or was place no_peer) at.after c.take_at.result at.takes) c.self.invariant

pub returns-clause-takes : goal.returns-clause-takes
returns-clause-takes c =
    let name = c.args.member.now in
    let was = c.self.inside.list.items in
    let items : was ≡ c.args.self.now.items = ap (λ (peers : Recorded Peer). peers.items) c.self.view_is in
    let is = subst (λ peers. position (is_named name) peers ≡ Some c.unwrap-place.result) (sym items) (sym c.place.ensures.place ∙ c.unwrap-place.ensures) in
    subst (λ peers. Takes peers name c.args.datagram.now c.take_at.result c.take_at.new.peers.items) items
    (takes_named c.args.datagram.now was name c.unwrap-place.result c.take_at.result c.take_at.new.peers.items c.self.invariant.0 is c.take_at.ensures.takes)

pub returns-clause-ignored : goal.returns-clause-ignored
returns-clause-ignored c is =
    ignored_there c.args.datagram.now c.self.inside.list.items c.unwrap-place.result c.take_at.result c.take_at.new.peers.items c.take_at.ensures.takes is
    ∙ ap (λ (peers : Recorded Peer). peers.items) c.self.view_is

pub returns-clause-err : goal.returns-clause-err
returns-clause-err c =
    subst (λ peers. OnErr c.take_at.result (c.take_at.new.peers.items ≡ peers)) (ap (λ (peers : Recorded Peer). peers.items) c.self.view_is)
    (failed_there c.args.datagram.now c.self.inside.list.items c.unwrap-place.result c.take_at.result c.take_at.new.peers.items c.take_at.ensures.takes)
