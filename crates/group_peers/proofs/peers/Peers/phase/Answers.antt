use Rattle.std.proofs.Common.{◌∙◌, ap, sym}
use Rattle.std.specs.Prelude.{is_some, option_map}
use Rattle.group_terms.specs.Logs.{Recorded}
use Rattle.group_peers.specs.declared.members.Peer.{Peer}
use Rattle.group_peers.proofs.PeerLemmas.{nobody}
use Rattle.group_peers.proofs.StepLemmas.{seen_there}
use Rattle.group_peers.proofs.peers.Peers.phase.Goals as goal

pub returns-in_err-place : goal.returns-in_err-place
returns-in_err-place c =
    c.from_residual.ensures
    ∙ sym (ap (option_map (λ (peer : Peer). peer.phase)) (nobody c.args.self.now.items c.args.member.now (sym c.place.ensures.found ∙ ap is_some c.in_err-place.was)))

pub returns : goal.returns
returns c =
    sym (ap (option_map (λ (peer : Peer). peer.phase))
    (seen_there c.self.inside.list.items c.args.self.now.items c.args.member.now c.in_ok-place.place c.index.result.now c.index.result.now
    (ap (λ (peers : Recorded Peer). peers.items) c.self.view_is) (sym c.place.ensures.place ∙ c.in_ok-place.was) c.index.ensures))
