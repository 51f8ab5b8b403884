-- What becomes of the peer at the place of a name.
use Rattle.std.proofs.Common.{◌≡◌, ℕ, zero, suc, false, List, [], ◌∷◌, Option, None, Some, Result, Ok, Err, get_or, set, refl, sym, ap, ◌∙◌, subst}
use Rattle.std.specs.Prelude.{is_some, option_and_then, OnErr, OnOk}
use Rattle.std.specs.List.{All, IsDistinct, position}
use Rattle.std.proofs.lemmas.List.{get_or_default}
use Rattle.std.proofs.lemmas.List.Elements.{All-head, All-same, All-set, All-tail}
use Rattle.std.proofs.lemmas.List.Quantifiers.{position-Some}
use Rattle.gd_edges.specs.declared.verifiers.Verifier.{Ghosts as VerifierGhosts}
use Rattle.group_terms.specs.Names.{Name, same_name}
use Rattle.group_terms.specs.declared.memory.NoMemory.{NoMemory}
use Rattle.group_terms.specs.declared.paths.Keyed.{Keyed}
use Rattle.group_terms.specs.declared.pushes.PushRefusal.{PushRefusal}
use Rattle.member_store.specs.declared.answers.Older.{Older}
use Rattle.member_store.specs.declared.answers.Taken.{Taken}
use Rattle.member_store.specs.Stores.{Store}
use Rattle.group_peers.specs.declared.members.Peer.{Peer}
use Rattle.group_peers.specs.declared.pulled.Pulled.{Pulled}
use Rattle.group_peers.specs.declared.pulled.Pulled.TheVariants.{Ignored, Sends, Told}
use Rattle.group_peers.specs.Peers.{AreOnce, changed, is_named, is_peer, names_of, peer_of, store_of}
use Rattle.group_peers.specs.Private.Lent.{HasBothOrNone}
use Rattle.group_peers.specs.Private.Places.{BeginsAt, GivesAt, IsGivenTo, KeepsAt, TakesAt, no_peer, store_at, with_store_at}
use Rattle.group_peers.specs.Pulls.{Begins, Takes, TakesDatagram}
use Rattle.group_peers.specs.Steps.{IsGiven, IsKeeping, IsLeft, Keeps}
use Rattle.group_peers.proofs.PeerLemmas.{changed_there, found_at, names_stay, nobody, put_there, same_there}

-- the store of a name
store_there : (peers : List Peer) (name : Name) (i : ℕ) → position (is_named name) peers ≡ Some i → store_of peers name ≡ store_at peers i
store_there peers name i is = ap (option_and_then (λ (peer : Peer). peer.store)) (found_at peers name i is)

pub no_store : (peers : List Peer) (name : Name) → is_peer peers name ≡ false → store_of peers name ≡ None
no_store peers name none = ap (option_and_then (λ (peer : Peer). peer.store)) (nobody peers name none)

-- the peer of a name is changed
pub changed_named : (change : Peer → Peer) (peers : List Peer) (name : Name) (i : ℕ) → AreOnce peers → position (is_named name) peers ≡ Some i
    → set peers i (change (get_or peers i no_peer)) ≡ changed change peers name
changed_named change peers name i once is =
    let found = position-Some (is_named name) peers i no_peer is in changed_there change peers name i once found.0 found.1

-- a peer is told its keys
pub keeps_named : (peers : List Peer) (name : Name) (i : ℕ) (keyed : Keyed) (result : Result (Unit {0}) Older) (next : List Peer) → AreOnce peers
    → position (is_named name) peers ≡ Some i → KeepsAt peers i keyed result next → Keeps peers name keyed result next
keeps_named peers name i keyed result next once is at = record {
  store = at.store;
  keeps = subst (λ kept. IsKeeping kept keyed result at.store) (sym (store_there peers name i is)) at.keeps;
  is = at.is ∙ changed_named (λ (peer : Peer). record peer { store = Some at.store }) peers name i once is;
}

-- a peer begins a pull
pub begins_named : (message ni group : List ℕ) (peers : List Peer) (name : Name) (i : ℕ) (next : List Peer) → AreOnce peers
    → position (is_named name) peers ≡ Some i → BeginsAt message ni group peers i next → Begins peers name message ni group next
begins_named message ni group peers name i next once is at = record {
  peer = get_or peers i no_peer;
  is_there = found_at peers name i is;
  after = at.after;
  begun = at.begun;
  now = at.is ∙ put_there peers i at.after once (position-Some (is_named name) peers i no_peer is).0 (ap (λ (peer : Peer). peer.phase) at.begun.now);
}

-- what a datagram makes of a peer has its SA
pub same_phase : (datagram : List ℕ) (peer after : Peer) (result : Result Pulled NoMemory) → TakesDatagram datagram peer result after → after.phase ≡ peer.phase
same_phase datagram peer after (Ok Ignored) takes = ap (λ (peer : Peer). peer.phase) takes.1
same_phase datagram peer after (Ok Sends) takes = ap (λ (peer : Peer). peer.phase) takes.1.now
same_phase datagram peer after (Ok (Told keyed)) takes = ap (λ (peer : Peer). peer.phase) takes.now
same_phase datagram peer after (Err short) takes = ap (λ (peer : Peer). peer.phase) takes

-- a datagram is given to a peer's pull
pub takes_named : (datagram : List ℕ) (peers : List Peer) (name : Name) (i : ℕ) (result : Result Pulled NoMemory) (next : List Peer) → AreOnce peers
    → position (is_named name) peers ≡ Some i → TakesAt datagram peers i result next → Takes peers name datagram result next
takes_named datagram peers name i result next once is at = record {
  peer = get_or peers i no_peer;
  is_there = found_at peers name i is;
  after = at.after;
  takes = at.takes;
  now = at.is ∙ put_there peers i at.after once (position-Some (is_named name) peers i no_peer is).0
      (same_phase datagram (get_or peers i no_peer) at.after result at.takes);
}

-- where it is ignored, or out of memory, nothing changes
pub ignored_there : (datagram : List ℕ) (peers : List Peer) (i : ℕ) (result : Result Pulled NoMemory) (next : List Peer) → TakesAt datagram peers i result next
    → result ≡ Ok Ignored → next ≡ peers
ignored_there datagram peers i result next at is =
    at.is ∙ same_there peers i at.after (subst (λ result. TakesDatagram datagram (get_or peers i no_peer) result at.after) is at.takes).1

pub failed_there : (datagram : List ℕ) (peers : List Peer) (i : ℕ) (result : Result Pulled NoMemory) (next : List Peer) → TakesAt datagram peers i result next
    → OnErr result (next ≡ peers)
failed_there datagram peers i (Ok pulled) next at = tt
failed_there datagram peers i (Err short) next at = at.is ∙ same_there peers i at.after at.takes

module _ {V : Type 0} (v : VerifierGhosts V) (verifier : V) (peers : List Peer) (name : Name) (datagram : List ℕ) where
  gives_to : (i : ℕ) (kept after : Option Store) (answer : Option (Result Taken PushRefusal)) (next : List Peer) → AreOnce peers
      → position (is_named name) peers ≡ Some i → store_at peers i ≡ kept → IsGivenTo v verifier kept datagram answer after
      → next ≡ with_store_at peers i after → IsGiven v verifier peers name datagram answer next
  gives_to i None after answer next once is had given new =
      subst (λ answer. IsGiven v verifier peers name datagram answer next) (sym given.0) (
        store_there peers name i is ∙ had,
        new ∙ same_there peers i (record (get_or peers i no_peer) { store = after }) (λ j. record (get_or peers i no_peer) { store = (given.1 ∙ sym had) j }),
      )
  gives_to i (Some store) after answer next once is had given new =
      subst (λ answer. IsGiven v verifier peers name datagram answer next) (sym given.2)
      (record {
        store = store;
        after = given.1;
        had = store_there peers name i is ∙ had;
        accepts = given.4;
        is = new ∙ ap (with_store_at peers i) given.3 ∙ changed_named (λ (peer : Peer). record peer { store = Some given.1 }) peers name i once is;
      })

  -- a peer is given a datagram
  pub gives_named : (i : ℕ) (answer : Option (Result Taken PushRefusal)) (next : List Peer) → AreOnce peers
      → position (is_named name) peers ≡ Some i → GivesAt v verifier peers i datagram answer next → IsGiven v verifier peers name datagram answer next
  gives_named i answer next once is at = gives_to i (store_at peers i) at.kept answer next once is refl at.gives at.is

  pub left_named : (i : ℕ) (old new : List ℕ) → position (is_named name) peers ≡ Some i
      → IsLeft v verifier (store_at peers i) datagram old new → IsLeft v verifier (store_of peers name) datagram old new
  left_named i old new is left = subst (λ kept. IsLeft v verifier kept datagram old new) (sym (store_there peers name i is)) left

  pub left_nobody : (old new : List ℕ) → is_peer peers name ≡ false → new ≡ old → IsLeft v verifier (store_of peers name) datagram old new
  left_nobody old new none same = subst (λ kept. IsLeft v verifier kept datagram old new) (sym (no_store peers name none)) same

-- ---- what is known of all of them

-- their names, in their order and each once; and each has a pull exactly where it sent something
abbrev AreKnown : List Peer → List Name → Type 0
AreKnown peers names = AreOnce peers × (names ≡ names_of peers) × All HasBothOrNone peers

-- the one at a place has both, or none
pub both_at : (peers : List Peer) (i : ℕ) → All HasBothOrNone peers → HasBothOrNone (get_or peers i no_peer)
both_at [] i both = refl
both_at (peer ∷ peers) zero both = All-head HasBothOrNone peer peers both
both_at (peer ∷ peers) (suc i) both = both_at peers i (All-tail HasBothOrNone peer peers both)

-- it stays where one is changed, but for its name
pub invariant_stays : (peers next : List Peer) (i : ℕ) (after : Peer) (names : List Name) → next ≡ set peers i after
    → after.phase ≡ (get_or peers i no_peer).phase → (HasBothOrNone (get_or peers i no_peer) → HasBothOrNone after)
    → AreKnown peers names → AreKnown next names
invariant_stays peers next i after names is same both was =
    let named : names_of peers ≡ names_of next = sym (ap names_of is ∙ names_stay peers i after same) in (
      subst (IsDistinct same_name) named was.0,
      was.1 ∙ named,
      All-same HasBothOrNone next (set peers i after) is (All-set HasBothOrNone peers i after (both (both_at peers i was.2)) was.2),
    )

-- where one began a pull, or could not
pub begun_stays : (message ni group : List ℕ) (peers next : List Peer) (i : ℕ) (names : List Name) (result : Result (Unit {0}) NoMemory)
    → OnOk result (BeginsAt message ni group peers i next) → OnErr result (next ≡ peers) → AreKnown peers names → AreKnown next names
begun_stays message ni group peers next i names (Ok done) ok err was =
    invariant_stays peers next i ok.after names ok.is (ap (λ (peer : Peer). peer.phase) ok.begun.now) (λ _. subst HasBothOrNone (sym ok.begun.now) refl) was
begun_stays message ni group peers next i names (Err short) ok err was = subst (λ peers. AreKnown peers names) (sym err) was

-- what a datagram makes of one has both, or none
pub both_taken : (datagram : List ℕ) (peer after : Peer) (result : Result Pulled NoMemory) → TakesDatagram datagram peer result after
    → HasBothOrNone peer → HasBothOrNone after
both_taken datagram peer after (Ok Ignored) takes both = subst HasBothOrNone (sym takes.1) both
both_taken datagram peer after (Ok Sends) takes both = subst HasBothOrNone (sym takes.1.now) refl
both_taken datagram peer after (Ok (Told keyed)) takes both = subst HasBothOrNone (sym takes.now) (both ∙ ap is_some takes.has)
both_taken datagram peer after (Err short) takes both = subst HasBothOrNone (sym takes) both

-- ---- what is read at the place of a name

-- it is its peer
pub seen_there : (was now : List Peer) (name : Name) (i : ℕ) (peer default : Peer) → was ≡ now → position (is_named name) now ≡ Some i
    → peer ≡ get_or was i default → peer_of now name ≡ Some peer
seen_there was now name i peer default items is seen =
    let found = position-Some (is_named name) now i no_peer is in
    found_at now name i is ∙ ap Some (sym (seen ∙ ap (λ peers. get_or peers i default) items ∙ get_or_default now i default no_peer found.0))

-- without a place there is no peer
pub nobody_there : (peers : List Peer) (name : Name) (place : Option ℕ) → is_some place ≡ is_peer peers name → ((i : ℕ) → place ≡ Some i → ⊥)
    → is_peer peers name ≡ false
nobody_there peers name None found none = sym found
nobody_there peers name (Some i) found none = absurd (none i refl)
