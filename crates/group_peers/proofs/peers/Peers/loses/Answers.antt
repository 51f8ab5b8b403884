use Rattle.std.proofs.Common.{◌∙◌, Option, ap, false, sym}
use Rattle.std.specs.Prelude.{is_some, option_map, unwrap_or}
use Rattle.group_terms.specs.Logs.{Recorded}
use Rattle.group_peers.specs.declared.members.Peer.{Peer}
use Rattle.group_peers.proofs.PeerLemmas.{nobody}
use Rattle.group_peers.proofs.StepLemmas.{seen_there}
use Rattle.group_peers.proofs.peers.Peers.loses.Goals as goal

pub returns-in-Some : goal.returns-in-Some
returns-in-Some c =
    sym (ap (λ (found : Option Peer). unwrap_or (option_map (λ (peer : Peer). peer.loses) found) false)
    (seen_there c.self.inside.list.items c.args.self.now.items c.args.member.now c.in-Some.place c.index.result.now c.index.result.now
    (ap (λ (peers : Recorded Peer). peers.items) c.self.view_is) (sym c.place.ensures.place ∙ c.in-Some.is) c.index.ensures))

pub returns-in-None : goal.returns-in-None
returns-in-None c =
    sym (ap (λ (found : Option Peer). unwrap_or (option_map (λ (peer : Peer). peer.loses) found) false)
    (nobody c.args.self.now.items c.args.member.now (sym c.place.ensures.found ∙ ap is_some c.in-None.is)))
