-- The members of a run, in the order in which they were first used.
use Rattle.std.specs.Prelude.{ℕ, Bool, true, false, List, [], ◌∷◌, ◌++◌, Option, None, Some, map, option_and_then, unwrap_or, option_map, if◌then◌else◌}
use Rattle.std.specs.List.{IsDistinct, find, list_any}
use Rattle.group_terms.specs.Names.{Name, same_name}
use Rattle.group_terms.specs.declared.phases.Phase1.{Phase1}
use Rattle.member_store.specs.Stores.{Store}
use Rattle.group_peers.specs.declared.members.Peer.{Peer}

-- their names
abbrev pub names_of : List Peer → List Name
names_of peers = map (λ (peer : Peer). peer.phase.member) peers

-- no two of them have the same name
abbrev pub AreOnce : List Peer → Type 0
AreOnce peers = IsDistinct same_name (names_of peers)

-- whether a peer has this name
abbrev pub is_named : Name → Peer → Bool
is_named name peer = same_name name peer.phase.member

-- whether one of the peers has this name
abbrev pub is_peer : List Peer → Name → Bool
is_peer peers name = list_any (is_named name) peers

-- the peer of this name
abbrev pub peer_of : List Peer → Name → Option Peer
peer_of peers name = find (is_named name) peers

-- the store of the peer of this name; none where nobody has the name, or where it was not told its keys
abbrev pub store_of : List Peer → Name → Option Store
store_of peers name = option_and_then (λ (peer : Peer). peer.store) (peer_of peers name)

-- the datagram that it sent last; none where it sent nothing
abbrev pub sent_by : List Peer → Name → Option (List ℕ)
sent_by peers name = option_and_then (λ (peer : Peer). peer.sent) (peer_of peers name)

-- its phase 1 SA; none where nobody has the name
abbrev pub phase_of : List Peer → Name → Option Phase1
phase_of peers name = option_map (λ (peer : Peer). peer.phase) (peer_of peers name)

-- whether that was introduced to the server
abbrev pub was_introduced : List Peer → Name → Bool
was_introduced peers name = unwrap_or (option_map (λ (peer : Peer). peer.introduced) (peer_of peers name)) false

-- whether the next datagram to it goes missing
abbrev pub loses : List Peer → Name → Bool
loses peers name = unwrap_or (option_map (λ (peer : Peer). peer.loses) (peer_of peers name)) false

-- a peer with this phase 1 SA, which has done nothing yet
abbrev pub new_peer : Phase1 → Peer
new_peer phase = record { phase = phase; introduced = false; pull = None; sent = None; loses = false; store = None }

-- with one more at the end, who has this SA
abbrev pub with_peer : List Peer → Phase1 → List Peer
with_peer peers phase = peers ++ new_peer phase ∷ []

-- with this peer in place of the one of its name
abbrev pub put : List Peer → Peer → List Peer
put peers peer = map (λ (other : Peer). if is_named peer.phase.member other then peer else other) peers

-- with the peer of this name changed
abbrev pub changed : (Peer → Peer) → List Peer → Name → List Peer
changed change peers name = map (λ (peer : Peer). if is_named name peer then change peer else peer) peers

-- its SA was introduced
abbrev pub introduced : List Peer → Name → List Peer
introduced peers name = changed (λ (peer : Peer). record peer { introduced = true }) peers name

-- the next datagram to it goes missing, or no longer does
abbrev pub with_loss : List Peer → Name → Bool → List Peer
with_loss peers name loses = changed (λ (peer : Peer). record peer { loses = loses }) peers name

-- it has this store now
abbrev pub with_store : List Peer → Name → Store → List Peer
with_store peers name store = changed (λ (peer : Peer). record peer { store = Some store }) peers name
