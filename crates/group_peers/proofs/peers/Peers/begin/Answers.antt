use Rattle.std.proofs.Common.{◌≡◌, ◌∙◌, ap, Some, subst, sym}
use Rattle.std.specs.List.{position}
use Rattle.std.proofs.lemmas.Result.{on_ok_weaker}
use Rattle.group_terms.specs.Logs.{Recorded}
use Rattle.group_peers.specs.declared.members.Peer.{Peer}
use Rattle.group_peers.specs.Peers.{is_named}
use Rattle.group_peers.specs.Pulls.{Begins}
use Rattle.group_peers.proofs.StepLemmas.{begins_named, begun_stays}
use Rattle.group_peers.proofs.peers.Peers.begin.Goals as goal

pub unwrap-place-requires : goal.unwrap-place-requires
unwrap-place-requires c = c.place.ensures.found ∙ c.requires.peer

pub invariant_of-self : goal.invariant_of-self
invariant_of-self c =
    begun_stays c.args.message c.args.ni c.args.group.now c.self.inside.list.items c.begin_at.new.peers.items c.unwrap-place.result c.self.inside.names.keys
    c.begin_at.result c.begin_at.ensures.ok c.begin_at.ensures.err c.self.invariant

pub returns-clause-ok : goal.returns-clause-ok
returns-clause-ok c =
    let name = c.args.member.now in
    let was = c.self.inside.list.items in
    let items : was ≡ c.args.self.now.items = ap (λ (peers : Recorded Peer). peers.items) c.self.view_is in
    let is = subst (λ peers. position (is_named name) peers ≡ Some c.unwrap-place.result) (sym items) (sym c.place.ensures.place ∙ c.unwrap-place.ensures) in
    on_ok_weaker c.begin_at.result (λ at. subst (λ peers. Begins peers name c.args.message c.args.ni c.args.group.now c.begin_at.new.peers.items) items
    (begins_named c.args.message c.args.ni c.args.group.now was name c.unwrap-place.result c.begin_at.new.peers.items c.self.invariant.0 is at))
    c.begin_at.ensures.ok
