-- What a peer lends: its pull, and the datagram that it sent last, with whether the next datagram to it goes missing.
use Rattle.std.specs.Prelude.{◌≡◌, List, Option, None, Some}
use Rattle.group_terms.specs.Names.{Name}
use Rattle.group_peers.specs.Peers.{changed, peer_of, sent_by}
use Rattle.group_peers.specs.declared.lent.Lent.{Lent}
use Rattle.group_peers.specs.declared.members.Peer.{Peer}

-- a peer without pull and datagram, which it lent
abbrev pub after_lending : Peer → Peer
after_lending peer = record peer { pull = None; sent = None }

-- a peer that has back what it lent
abbrev pub with_back : Lent → Peer → Peer
with_back lent peer = record peer { pull = Some lent.pull; sent = Some lent.sent; loses = lent.loses }

-- the peer of this name lends what it has
pub record LendsFrom (peers : List Peer) (name : Name) (lent : Lent) (next : List Peer) : Type 0 where
  pub peer : Peer
  pub is_there : peer_of peers name ≡ Some peer
  pub pull : peer.pull ≡ Some lent.pull
  pub sent : peer.sent ≡ Some lent.sent
  pub loses : lent.loses ≡ peer.loses
  pub now : next ≡ changed after_lending peers name

-- so it does; where nobody of this name sent anything, nothing is lent, and nothing changes
abbrev pub Lends : List Peer → Name → Option Lent → List Peer → Type 0
Lends peers name None next = (sent_by peers name ≡ None) × (next ≡ peers)
Lends peers name (Some lent) next = LendsFrom peers name lent next
