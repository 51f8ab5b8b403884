use Rattle.std.proofs.Common.{◌≡◌, ap, subst, sym, true}
use Rattle.group_peers.specs.declared.members.Peer.{Peer}
use Rattle.group_peers.specs.Peers.{peer_of, was_introduced}
use Rattle.member_steps.specs.Views.{View}
use Rattle.member_steps.proofs.PeerLemmas.{flagged, found_is_peer}
use Rattle.member_steps.proofs.members.Members.begin_pull.Goals as goal

pub begin-requires : goal.begin-requires
begin-requires g c =
    let was = c.self.inside.peers.items in
    let m = c.args.member.now in
    let introduced : was_introduced was m ≡ true =
    subst (λ all. was_introduced all m ≡ true) (sym (ap (λ (view : View). view.all) c.self.view_is)) c.requires.introduced in
    let seen = flagged (λ (peer : Peer). peer.introduced) (peer_of was m) introduced in
    record { peer = found_is_peer was m seen.0 seen.1 }
