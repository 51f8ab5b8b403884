use Rattle.std.proofs.Common.{◌∙◌, ap, sym}
use Rattle.std.specs.Prelude.{is_some, option_and_then}
use Rattle.group_terms.specs.Logs.{Recorded}
use Rattle.group_peers.specs.declared.members.Peer.{Peer}
use Rattle.group_peers.proofs.PeerLemmas.{nobody}
use Rattle.group_peers.proofs.StepLemmas.{seen_there}
use Rattle.group_peers.proofs.peers.Peers.store.Goals as goal

pub returns-in-Some : goal.returns-in-Some
returns-in-Some c =
    c.as_ref.ensures.value
    ∙ sym (ap (option_and_then (λ (peer : Peer). peer.store))
    (seen_there c.self.inside.list.items c.args.self.now.items c.args.member.now c.in-Some.place c.index.result.now c.index.result.now
    (ap (λ (peers : Recorded Peer). peers.items) c.self.view_is) (sym c.place.ensures.place ∙ c.in-Some.is) c.index.ensures))

pub returns-in-None : goal.returns-in-None
returns-in-None c =
    sym (ap (option_and_then (λ (peer : Peer). peer.store)) (nobody c.args.self.now.items c.args.member.now (sym c.place.ensures.found ∙ ap is_some c.in-None.is)))
