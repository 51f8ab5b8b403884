use Rattle.std.proofs.Common.{◌≡◌, ◌∙◌, ap, get_or, refl, Some, subst, sym}
use Rattle.std.specs.Prelude.{is_some}
use Rattle.std.specs.List.{position}
use Rattle.group_terms.specs.Logs.{Recorded}
use Rattle.group_peers.specs.declared.members.Peer.{Peer}
use Rattle.group_peers.specs.Lent.{Lends}
use Rattle.group_peers.specs.Peers.{is_named}
use Rattle.group_peers.specs.Private.Places.{no_peer}
use Rattle.group_peers.proofs.LentLemmas.{lends_both, lends_named, lends_phase, nobody_sent}
use Rattle.group_peers.proofs.StepLemmas.{invariant_stays}
use Rattle.group_peers.proofs.peers.Peers.lend.Goals as goal

pub invariant_of-self : goal.invariant_of-self
invariant_of-self c =
    let at = c.lend_at.ensures.lends in
    let was = c.self.inside.list.items in
    let place = c.in-Some.place in
    let peer = get_or was place no_peer in
    invariant_stays was c.lend_at.new.peers.items place at.after c.self.inside.names.keys at.is
    (lends_phase peer at.after c.lend_at.result at.lends) (lends_both peer at.after c.lend_at.result at.lends) c.self.invariant

pub returns-in-Some-clause-lends : goal.returns-in-Some-clause-lends
returns-in-Some-clause-lends c =
    let name = c.args.member.now in
    let was = c.self.inside.list.items in
    let items : was ≡ c.args.self.now.items = ap (λ (peers : Recorded Peer). peers.items) c.self.view_is in
    let is = subst (λ peers. position (is_named name) peers ≡ Some c.in-Some.place) (sym items) (sym c.place.ensures.place ∙ c.in-Some.is) in
    subst (λ peers. Lends peers name c.lend_at.result c.lend_at.new.peers.items) items
    (lends_named was name c.in-Some.place c.lend_at.result c.lend_at.new.peers.items c.self.invariant.0 is c.lend_at.ensures.lends)

pub returns-in-None-clause-lends : goal.returns-in-None-clause-lends
returns-in-None-clause-lends c = (nobody_sent c.args.self.now.items c.args.member.now (sym c.place.ensures.found ∙ ap is_some c.in-None.is), refl)
