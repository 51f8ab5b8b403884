use Rattle.std.proofs.Common.{◌≡◌, ◌∙◌, ◌||◌, Bool, true, false, cond, List, [], ◌∷◌, Some, is_some, refl, sym, ap, rules}
use Rattle.std.specs.Option.{option_map}
use Rattle.group_terms.specs.Names.{Name, same_name}
use Rattle.group_peers.specs.Peers.{is_peer, peer_of, phase_of}
use Rattle.group_peers.specs.declared.members.Peer.{Peer}
use Rattle.test_model_and_keys.proofs.peers.note.Goals as goal

-- who has an SA is a peer, and nobody else
is_there : (peers : List Peer) (m : Name) → is_some (phase_of peers m) ≡ is_peer peers m
is_there [] m = refl
is_there (first ∷ peers) m = by_name (same_name m first.phase.member) (is_there peers m)
  where
    by_name : (b : Bool) → is_some (phase_of peers m) ≡ is_peer peers m
        → is_some (option_map (λ (peer : Peer). peer.phase) (cond b (Some first) (peer_of peers m))) ≡ (b || is_peer peers m)
    by_name true rest = refl
    by_name false rest = rest

pub note-requires-clause-new : goal.note-requires-clause-new
note-requires-clause-new c =
    let peers = c.args.peers.now.items in
    let m = c.args.member.now in
    ap (λ peers. is_peer peers m) c.reserve.ensures.items ∙ sym (is_there peers m) ∙ ap is_some (sym c.in-None.ensures)

pub returns-in-Some : goal.returns-in-Some
returns-in-Some c =
    let peers = c.args.peers.now.items in
    let m = c.args.member.now in
    let is : is_peer peers m ≡ true = sym (ap is_some c.in-Some.ensures ∙ is_there peers m) in
    search rules
