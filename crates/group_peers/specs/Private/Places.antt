-- What is said of the peer of a name, said of the peer at a place.
use Rattle.std.specs.Prelude.{Bool, true, ◌≡◌, ℕ, List, [], Option, None, Some, Result, slice_index_or, slice_set}
use Rattle.gd_edges.specs.declared.verifiers.Verifier.{Ghosts as VerifierGhosts}
use Rattle.group_terms.specs.declared.paths.Keyed.{Keyed}
use Rattle.group_terms.specs.declared.pushes.PushRefusal.{PushRefusal}
use Rattle.member_store.specs.declared.answers.Older.{Older}
use Rattle.member_store.specs.declared.answers.Taken.{Taken}
use Rattle.member_store.specs.Steps.{IsAcceptance}
use Rattle.member_store.specs.Stores.{Store}
use Rattle.group_peers.specs.declared.members.Peer.{Peer}
use Rattle.group_peers.specs.Steps.{IsKeeping}
use Rattle.group_terms.specs.declared.memory.NoMemory.{NoMemory}
use Rattle.group_peers.specs.Peers.{new_peer}
use Rattle.group_peers.specs.Pulls.{Begun, TakesDatagram}
use Rattle.group_peers.specs.declared.pulled.Pulled.{Pulled}

-- the default of a look-up at a place
abbrev pub no_peer : Peer
no_peer = new_peer (record { member = []; cookies = []; skeyid_a = []; key = []; last = [] })

-- the store at a place
abbrev pub store_at : List Peer → ℕ → Option Store
store_at peers place = (slice_index_or peers place no_peer).store

-- the peer at a place has this store now
abbrev pub with_store_at : List Peer → ℕ → Option Store → List Peer
with_store_at peers place kept = slice_set peers place (record (slice_index_or peers place no_peer) { store = kept })

-- its SA is introduced
abbrev pub introduced_at : List Peer → ℕ → List Peer
introduced_at peers place = slice_set peers place (record (slice_index_or peers place no_peer) { introduced = true })

-- the next datagram to it goes missing, or comes
abbrev pub with_loss_at : List Peer → ℕ → Bool → List Peer
with_loss_at peers place loses = slice_set peers place (record (slice_index_or peers place no_peer) { loses = loses })

-- the peer at a place begins a pull
pub record BeginsAt (message ni group : List ℕ) (peers : List Peer) (place : ℕ) (next : List Peer) : Type 0 where
  pub after : Peer
  pub begun : Begun message ni group (slice_index_or peers place no_peer) after
  pub is : next ≡ slice_set peers place after

-- a datagram is given to its pull
pub record TakesAt (datagram : List ℕ) (peers : List Peer) (place : ℕ) (result : Result Pulled NoMemory) (next : List Peer) : Type 0 where
  pub after : Peer
  pub takes : TakesDatagram datagram (slice_index_or peers place no_peer) result after
  pub is : next ≡ slice_set peers place after

-- it is told its keys, and has this store then
pub record KeepsAt (peers : List Peer) (place : ℕ) (keyed : Keyed) (result : Result (Unit {0}) Older) (next : List Peer) : Type 0 where
  pub store : Store
  pub keeps : IsKeeping (store_at peers place) keyed result store
  pub is : next ≡ with_store_at peers place (Some store)

module _ {V : Type 0} (v : VerifierGhosts V) (verifier : V) where
  -- a store is given a datagram, if there is one
  abbrev pub IsGivenTo : Option Store → List ℕ → Option (Result Taken PushRefusal) → Option Store → Type 0
  IsGivenTo None datagram answer next = (answer ≡ None) × (next ≡ None)
  IsGivenTo (Some store) datagram answer next =
      (result : Result Taken PushRefusal) × (after : Store) × (answer ≡ Some result) × (next ≡ Some after)
      × IsAcceptance v verifier store datagram result after

  -- so is that of the peer at a place
  pub record GivesAt (peers : List Peer) (place : ℕ) (datagram : List ℕ) (answer : Option (Result Taken PushRefusal)) (next : List Peer)
      : Type 0 where
    pub kept : Option Store
    pub gives : IsGivenTo (store_at peers place) datagram answer kept
    pub is : next ≡ with_store_at peers place kept
