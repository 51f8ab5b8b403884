use Rattle.std.proofs.Common.{◌≡◌, ◌∙◌, ap, subst, sym, Some, refl, get_or}
use Rattle.std.specs.List.{position}
use Rattle.group_terms.specs.Logs.{Recorded}
use Rattle.group_peers.specs.declared.members.Peer.{Peer}
use Rattle.group_peers.specs.Peers.{is_named}
use Rattle.group_peers.specs.Private.Places.{no_peer}
use Rattle.group_peers.specs.Steps.{Keeps}
use Rattle.group_peers.proofs.StepLemmas.{invariant_stays, keeps_named}
use Rattle.group_peers.proofs.peers.Peers.keep.Goals as goal

pub unwrap-place-requires : goal.unwrap-place-requires
unwrap-place-requires c = c.place.ensures.found ∙ c.requires.peer

pub invariant_of-self : goal.invariant_of-self
invariant_of-self c =
    let at = c.keep_at.ensures.keeps in
    let was = c.self.inside.list.items in
    let place = c.unwrap-place.result in
    invariant_stays was c.keep_at.new.peers.items place (record (get_or was place no_peer) { store = Some at.store }) c.self.inside.names.keys at.is refl
    (λ both. both) c.self.invariant

pub returns-clause-keeps : goal.returns-clause-keeps
returns-clause-keeps c =
    let items : c.self.inside.list.items ≡ c.args.self.now.items = ap (λ (peers : Recorded Peer). peers.items) c.self.view_is in
    let is = subst (λ peers. position (is_named c.args.member.now) peers ≡ Some c.unwrap-place.result) (sym items) (sym c.place.ensures.place ∙ c.unwrap-place.ensures) in
    subst (λ peers. Keeps peers c.args.member.now c.args.keyed c.keep_at.result c.keep_at.new.peers.items) items
    (keeps_named c.self.inside.list.items c.args.member.now c.unwrap-place.result c.args.keyed c.keep_at.result c.keep_at.new.peers.items
    c.self.invariant.0 is c.keep_at.ensures.keeps)
