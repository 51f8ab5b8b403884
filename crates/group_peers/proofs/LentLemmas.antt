-- What the peer at the place of a name lends, and has back.
use Rattle.std.proofs.Common.{◌≡◌, ℕ, false, List, Option, None, Some, get_or, set, refl, sym, ap, ◌∙◌, subst}
use Rattle.std.specs.Prelude.{option_and_then}
use Rattle.std.specs.List.{position}
use Rattle.group_terms.specs.Names.{Name}
use Rattle.group_peers.specs.declared.lent.Lent.{Lent}
use Rattle.group_peers.specs.declared.members.Peer.{Peer}
use Rattle.group_peers.specs.Lent.{Lends, after_lending}
use Rattle.group_peers.specs.Peers.{AreOnce, is_named, is_peer, sent_by}
use Rattle.group_peers.specs.Private.Lent.{HasBothOrNone, LendsAt, LendsOf}
use Rattle.group_peers.specs.Private.Places.{no_peer}
use Rattle.group_peers.proofs.PeerLemmas.{found_at, nobody, same_there}
use Rattle.group_peers.proofs.StepLemmas.{changed_named}

-- who lends has its SA then
pub lends_phase : (peer after : Peer) (result : Option Lent) → LendsOf peer result after → after.phase ≡ peer.phase
lends_phase peer after None lends = ap (λ (peer : Peer). peer.phase) lends.1
lends_phase peer after (Some lent) lends = ap (λ (peer : Peer). peer.phase) lends.now

-- and neither pull nor datagram, or both
pub lends_both : (peer after : Peer) (result : Option Lent) → LendsOf peer result after → HasBothOrNone peer → HasBothOrNone after
lends_both peer after None lends both = subst HasBothOrNone (sym lends.1) both
lends_both peer after (Some lent) lends both = subst HasBothOrNone (sym lends.now) refl

-- the peer of a name lends
pub lends_named : (peers : List Peer) (name : Name) (i : ℕ) (result : Option Lent) (next : List Peer) → AreOnce peers
    → position (is_named name) peers ≡ Some i → LendsAt peers i result next → Lends peers name result next
lends_named peers name i None next once is at = (
  ap (option_and_then (λ (peer : Peer). peer.sent)) (found_at peers name i is) ∙ at.lends.0,
  at.is ∙ same_there peers i at.after at.lends.1,
)
lends_named peers name i (Some lent) next once is at = record {
  peer = get_or peers i no_peer;
  is_there = found_at peers name i is;
  pull = at.lends.pull;
  sent = at.lends.sent;
  loses = at.lends.loses;
  now = at.is ∙ ap (set peers i) at.lends.now ∙ changed_named after_lending peers name i once is;
}

-- nobody sent nothing
pub nobody_sent : (peers : List Peer) (name : Name) → is_peer peers name ≡ false → sent_by peers name ≡ None
nobody_sent peers name none = ap (option_and_then (λ (peer : Peer). peer.sent)) (nobody peers name none)
