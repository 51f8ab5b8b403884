-- What becomes of the store of a peer: it is told its keys (RFC 6407 section 3.2), or given a datagram that may be a push (section 4).
use Rattle.std.specs.Prelude.{◌≡◌, ℕ, List, Option, None, Some, Result, Ok}
use Rattle.gd_edges.specs.declared.verifiers.Verifier.{Ghosts as VerifierGhosts}
use Rattle.group_terms.specs.Names.{Name}
use Rattle.group_terms.specs.declared.paths.Keyed.{Keyed}
use Rattle.group_terms.specs.declared.pushes.PushRefusal.{PushRefusal}
use Rattle.member_store.specs.declared.answers.Older.{Older}
use Rattle.member_store.specs.declared.answers.Taken.{Taken}
use Rattle.member_store.specs.Steps.{IsAcceptance, IsOpening, IsRenewal, room_after}
use Rattle.member_store.specs.Stores as stores
use Rattle.member_store.specs.Stores.{Store}
use Rattle.push_msg.specs.Readings.{PushRead}
use Rattle.group_peers.specs.declared.members.Peer.{Peer}
use Rattle.group_peers.specs.Peers.{store_of, with_store}

-- ---- keys

-- the first keys make the store; later ones make it anew, or are refused where they are older
abbrev pub IsKeeping : Option Store → Keyed → Result (Unit {0}) Older → Store → Type 0
IsKeeping None keyed result next = (result ≡ Ok tt) × (next ≡ stores.store_of keyed)
IsKeeping (Some store) keyed result next = IsRenewal store keyed result next

-- the peer of this name is told its keys, and has this store then
pub record Keeps (peers : List Peer) (name : Name) (keyed : Keyed) (result : Result (Unit {0}) Older) (next : List Peer) : Type 0 where
  pub store : Store
  pub keeps : IsKeeping (store_of peers name) keyed result store
  pub is : next ≡ with_store peers name store

-- ---- a datagram

module _ {V : Type 0} (v : VerifierGhosts V) (verifier : V) where
  -- the peer of this name has a store, which answers and is this one then
  pub record Gives (peers : List Peer) (name : Name) (datagram : List ℕ) (result : Result Taken PushRefusal) (next : List Peer) : Type 0 where
    pub store : Store
    pub after : Store
    pub had : store_of peers name ≡ Some store
    pub accepts : IsAcceptance v verifier store datagram result after
    pub is : next ≡ with_store peers name after

  -- it is given a datagram; without a store there is no answer, and nothing changes
  abbrev pub IsGiven : List Peer → Name → List ℕ → Option (Result Taken PushRefusal) → List Peer → Type 0
  IsGiven peers name datagram None next = (store_of peers name ≡ None) × (next ≡ peers)
  IsGiven peers name datagram (Some result) next = Gives peers name datagram result next

  -- what is then in the room: without a store what was there before, else what its opening leaves
  abbrev pub IsLeft : Option Store → List ℕ → List ℕ → List ℕ → Type 0
  IsLeft None datagram old new = new ≡ old
  IsLeft (Some store) datagram old new =
      (opening : Result PushRead PushRefusal) × IsOpening v verifier store datagram opening × (new ≡ room_after opening)
