use Rattle.std.proofs.Common.{◌≡◌, ◌∙◌, ap, get_or, refl, Some, subst, sym, true}
use Rattle.std.specs.List.{position}
use Rattle.group_terms.specs.Logs.{Recorded}
use Rattle.group_peers.specs.declared.members.Peer.{Peer}
use Rattle.group_peers.specs.Peers.{changed, is_named}
use Rattle.group_peers.specs.Private.Places.{no_peer}
use Rattle.group_peers.proofs.PeerLemmas.{changed_nowhere}
use Rattle.group_peers.proofs.StepLemmas.{changed_named, invariant_stays, nobody_there}
use Rattle.group_peers.proofs.peers.Peers.introduce.Goals as goal

pub invariant_of-self : goal.invariant_of-self
invariant_of-self c =
    let was = c.self.inside.list.items in
    let place = c.in-Some.place in
    let after = record (get_or was place no_peer) { introduced = true } in
    invariant_stays was c.introduce_at.new.peers.items place after c.self.inside.names.keys c.introduce_at.ensures.items refl
    (λ both. both) c.self.invariant

pub returns-in-Some-clause-items : goal.returns-in-Some-clause-items
returns-in-Some-clause-items c =
    let name = c.args.member.now in
    let was = c.self.inside.list.items in
    let items : was ≡ c.args.self.now.items = ap (λ (peers : Recorded Peer). peers.items) c.self.view_is in
    let is = subst (λ peers. position (is_named name) peers ≡ Some c.in-Some.place) (sym items) (sym c.place.ensures.place ∙ c.in-Some.is) in
    c.introduce_at.ensures.items
    ∙ changed_named (λ (peer : Peer). record peer { introduced = true }) was name c.in-Some.place c.self.invariant.0 is
    ∙ ap (λ peers. changed (λ (peer : Peer). record peer { introduced = true }) peers name) items

pub returns-in_default-clause-items : goal.returns-in_default-clause-items
returns-in_default-clause-items c =
    let name = c.args.member.now in
    let now = c.args.self.now.items in
    let change : Peer → Peer = λ peer. record peer { introduced = true } in
    sym (changed_nowhere change now name (nobody_there now name c.place.result c.place.ensures.found c.in_default.not-Some))
