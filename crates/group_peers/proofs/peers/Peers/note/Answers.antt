use Rattle.std.proofs.Common.{◌≡◌, ◌∙◌, ◌∷◌, ◌++◌, ◌<◌, [], false, ap, arith, refl, subst, sym}
use Rattle.std.specs.List.{IsDistinct}
use Rattle.std.proofs.lemmas.List.Elements.{All-push, All-same}
use Rattle.indexmap.specs.IndexSet.{spare}
use Rattle.group_terms.specs.Logs.{Recorded}
use Rattle.group_terms.specs.Names.{same_name}
use Rattle.group_peers.specs.declared.members.Peer.{Peer}
use Rattle.group_peers.specs.Peers.{is_peer, names_of, new_peer}
use Rattle.group_peers.specs.Private.Lent.{HasBothOrNone}
use Rattle.group_peers.proofs.PeerLemmas.{name_goes_last}
use Rattle.group_peers.proofs.peers.Peers.note.Goals as goal

pub invariant_of-self : goal.invariant_of-self
invariant_of-self c =
    let was = c.self.inside.list.items in
    let one = new_peer c.args.phase in
    let none : is_peer was c.args.phase.member ≡ false =
    ap (λ (peers : Recorded Peer). is_peer peers.items c.args.phase.member) c.self.view_is ∙ c.requires.new in
    let room : 0 < spare c.self.inside.names = omega (arith, c.requires.room, ap (λ (peers : Recorded Peer). peers.spare) c.self.view_is) in
    let new : c.push_reserved.new.self.items ≡ was ++ one ∷ [] = c.push_reserved.ensures.items ∙ ap (λ peer. was ++ peer ∷ []) c.new.ensures in
    let names : c.insert.new.self.keys ≡ names_of c.push_reserved.new.self.items =
    name_goes_last was one c.self.inside.names.keys c.insert.new.self.keys c.insert.result c.self.invariant.1 none (c.insert.ensures.succeeds room)
    c.insert.ensures.keys ∙ ap names_of (sym new) in (
      subst (IsDistinct same_name) names c.insert.ensures.unique,
      names,
      All-same HasBothOrNone c.push_reserved.new.self.items (was ++ one ∷ []) new (All-push HasBothOrNone was one c.self.invariant.2 refl),
    )
