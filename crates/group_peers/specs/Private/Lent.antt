-- What is lent by the peer at a place; and what each peer has, so that it can lend all or nothing.
use Rattle.std.specs.Prelude.{◌≡◌, ℕ, List, Option, None, Some, is_some, slice_index_or, slice_set}
use Rattle.group_peers.specs.Lent.{after_lending, with_back}
use Rattle.group_peers.specs.Private.Places.{no_peer}
use Rattle.group_peers.specs.declared.lent.Lent.{Lent}
use Rattle.group_peers.specs.declared.members.Peer.{Peer}

-- a peer that sent something has a pull, and the other way round
abbrev pub HasBothOrNone : Peer → Type 0
HasBothOrNone peer = is_some peer.sent ≡ is_some peer.pull

-- a peer lends what it has
pub record IsLent (peer : Peer) (lent : Lent) (next : Peer) : Type 0 where
  pub pull : peer.pull ≡ Some lent.pull
  pub sent : peer.sent ≡ Some lent.sent
  pub loses : lent.loses ≡ peer.loses
  pub now : next ≡ after_lending peer

-- if it has something
abbrev pub LendsOf : Peer → Option Lent → Peer → Type 0
LendsOf peer None next = (peer.sent ≡ None) × (next ≡ peer)
LendsOf peer (Some lent) next = IsLent peer lent next

-- the peer at a place lends what it has
pub record LendsAt (peers : List Peer) (place : ℕ) (result : Option Lent) (next : List Peer) : Type 0 where
  pub after : Peer
  pub lends : LendsOf (slice_index_or peers place no_peer) result after
  pub is : next ≡ slice_set peers place after

-- it has that back
abbrev pub with_back_at : List Peer → ℕ → Lent → List Peer
with_back_at peers place lent = slice_set peers place (with_back lent (slice_index_or peers place no_peer))
