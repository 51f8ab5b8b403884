-- What holds of each peer, and what is seen of the one who is found, while peers change.
use Rattle.std.proofs.Common.{◌≡◌, ◌∙◌, ap, refl, subst, sym, inl, inr, true, false, Bool, List, [], ◌∷◌, Option, None, Some}
use Rattle.std.specs.Prelude.{◌||◌, IfSome, if◌then◌else◌, option_and_then}
use Rattle.std.specs.List.{All, find}
use Rattle.std.specs.Option.{option_map}
use Rattle.std.proofs.lemmas.Bool.{cases_Bool, cond_both, false≢true}
use Rattle.std.proofs.lemmas.List.Elements.{All-head, All-map, All-tail, All-weaker}
use Rattle.std.proofs.lemmas.Option.{none-some}
use Rattle.std.proofs.lemmas.Slice.Eq.{bytes_eq-Decides}
use Rattle.group_terms.specs.Names.{Name, same_name}
use Rattle.group_terms.specs.declared.phases.Phase1.{Phase1}
use Rattle.group_peers.specs.Peers.{changed, is_named, is_peer, new_peer, peer_of, phase_of, put, store_of, with_peer, with_store}
use Rattle.group_peers.specs.declared.members.Peer.{Peer}
use Rattle.member_store.specs.Stores.{Store}

same_name-is : (m n : Name) → same_name m n ≡ true → m ≡ n
same_name-is m n same = (bytes_eq-Decides m n).0 same

-- ---- what holds of each

module _ (Q : Peer → Type 0) where
  -- peers of a name are changed so
  pub all_changed : (change : Peer → Peer) (peers : List Peer) (m : Name)
      → ((peer : Peer) → m ≡ peer.phase.member → Q peer → Q (change peer)) → All Q peers → All Q (changed change peers m)
  all_changed change peers m keeps all =
      All-map Q (λ (peer : Peer). if is_named m peer then change peer else peer) peers
      (All-weaker Q (λ peer. Q (if is_named m peer then change peer else peer))
      (λ peer holds. cond_both (is_named m peer) (change peer) peer Q
      (λ same. keeps peer (same_name-is m peer.phase.member same) holds) (λ other. holds)) peers all)

  -- a peer is put in place of that of its name
  pub all_put : (peers : List Peer) (after : Peer) → Q after → All Q peers → All Q (put peers after)
  all_put peers after has all =
      All-map Q (λ (other : Peer). if is_named after.phase.member other then after else other) peers
      (All-weaker Q (λ other. Q (if is_named after.phase.member other then after else other))
      (λ other holds. cond_both (is_named after.phase.member other) after other Q (λ same. has) (λ another. holds)) peers all)

  there_by : (peer one : Peer) (others : Option Peer) (named : Bool) → Q one → (others ≡ Some peer → Q peer)
      → (if named then Some one else others) ≡ Some peer → Q peer
  there_by peer one others true holds later is = let same : one ≡ peer = cc (is) in subst Q same holds
  there_by peer one others false holds later is = later is

  -- it holds of the one who is found
  pub there : (peers : List Peer) (m : Name) (peer : Peer) → All Q peers → peer_of peers m ≡ Some peer → Q peer
  there [] m peer all is = absurd (none-some peer is)
  there (one ∷ peers) m peer all is =
      there_by peer one (peer_of peers m) (is_named m one) (All-head Q one peers all) (there peers m peer (All-tail Q one peers all)) is

module _ (P : Name → Store → Type 0) where
  -- so it is of its store, if it has one
  abbrev pub Holds : Peer → Type 0
  Holds peer = IfSome peer.store (λ (store : Store). P peer.phase.member store)

  -- the store that is found is that of its name
  found_by : (m : Name) (store : Store) (peer : Peer) (others : Option Peer) (named : Bool) → is_named m peer ≡ named → Holds peer
      → (option_and_then (λ (peer : Peer). peer.store) others ≡ Some store → P m store)
      → option_and_then (λ (peer : Peer). peer.store) (if named then Some peer else others) ≡ Some store → P m store
  found_by m store peer others true same holds later had =
      subst (λ name. P name store) (sym (same_name-is m peer.phase.member same))
      (subst (λ (kept : Option Store). IfSome kept (λ (store : Store). P peer.phase.member store)) had holds)
  found_by m store peer others false other holds later had = later had

  pub found : (peers : List Peer) (m : Name) (store : Store) → All Holds peers → store_of peers m ≡ Some store → P m store
  found [] m store all had = absurd (none-some store had)
  found (peer ∷ peers) m store all had =
      found_by m store peer (find (is_named m) peers) (is_named m peer) refl (All-head Holds peer peers all)
      (found peers m store (All-tail Holds peer peers all)) had

-- what holds of no store holds of none
pub no_store : (P : Store → Type 0) (had : Option Store) → IfSome had (λ (store : Store). ⊥) → IfSome had P
no_store P None none = tt
no_store P (Some store) none = absurd none

-- ---- who is found

-- it has the name
named_by : (m : Name) (peer one : Peer) (others : Option Peer) (named : Bool) → is_named m one ≡ named
    → (others ≡ Some peer → m ≡ peer.phase.member) → (if named then Some one else others) ≡ Some peer → m ≡ peer.phase.member
named_by m peer one others true same later is =
    let found : one ≡ peer = cc (is) in
    subst (λ (peer : Peer). m ≡ peer.phase.member) found (same_name-is m one.phase.member same)
named_by m peer one others false other later is = later is

pub found_named : (peers : List Peer) (m : Name) (peer : Peer) → peer_of peers m ≡ Some peer → m ≡ peer.phase.member
found_named [] m peer is = absurd (none-some peer is)
found_named (one ∷ peers) m peer is = named_by m peer one (peer_of peers m) (is_named m one) refl (found_named peers m peer) is

-- who is found is a peer
peer_if : (one peer : Peer) (others : Option Peer) (later named : Bool) → (others ≡ Some peer → later ≡ true)
    → (if named then Some one else others) ≡ Some peer → (named || later) ≡ true
peer_if one peer others later true rest is = refl
peer_if one peer others later false rest is = rest is

pub found_peer : (peers : List Peer) (m : Name) (peer : Peer) → peer_of peers m ≡ Some peer → is_peer peers m ≡ true
found_peer [] m peer is = absurd (none-some peer is)
found_peer (one ∷ peers) m peer is = peer_if one peer (peer_of peers m) (is_peer peers m) (is_named m one) (found_peer peers m peer) is

-- who has a store is found
store_by : (found : Option Peer) (store : Store) → option_and_then (λ (peer : Peer). peer.store) found ≡ Some store → (peer : Peer) × (found ≡ Some peer)
store_by None store had = absurd (none-some store had)
store_by (Some peer) store had = (peer, refl)

pub has_peer : (peers : List Peer) (m : Name) (store : Store) → store_of peers m ≡ Some store → is_peer peers m ≡ true
has_peer peers m store had = let found = store_by (peer_of peers m) store had in found_peer peers m found.0 found.1

-- the store of a peer that was made anew is found
pub found_anew : (peers : List Peer) (m : Name) (now : Store) → is_peer peers m ≡ true → store_of (with_store peers m now) m ≡ Some now
found_anew [] m now is = absurd (false≢true is)
found_anew (peer ∷ peers) m now is =
    let others = find (is_named m) (with_store peers m now) in
    cond_both (is_named m peer) (record peer { store = Some now }) peer
    (λ (one : Peer). option_and_then (λ (peer : Peer). peer.store) (if is_named m one then Some one else others) ≡ Some now)
    (λ same. ap (λ named. option_and_then (λ (peer : Peer). peer.store)
    (if named then Some (record peer { store = Some now }) else others)) same)
    (λ other. ap (λ named. option_and_then (λ (peer : Peer). peer.store) (if named then Some peer else others)) other
    ∙ found_anew peers m now (sym (ap (λ named. named || is_peer peers m) other) ∙ is))

-- who was put is found
pub put_found : (after : Peer) (peers : List Peer) → is_peer peers after.phase.member ≡ true → peer_of (put peers after) after.phase.member ≡ Some after
put_found after [] is = absurd (false≢true is)
put_found after (peer ∷ peers) is =
    let name = after.phase.member in
    let others = peer_of (put peers after) name in
    cond_both (is_named name peer) after peer (λ (one : Peer). (if is_named name one then Some one else others) ≡ Some after)
    (λ same. ap (λ named. if named then Some after else others) ((bytes_eq-Decides name name).1 refl))
    (λ other. ap (λ named. if named then Some peer else others) other
    ∙ put_found after peers (sym (ap (λ named. named || is_peer peers name) other) ∙ is))

-- who was found still is where one more comes
still_by : (one : Option Peer) (others later : Option Peer) (peer : Peer) (named : Bool) → (others ≡ Some peer → later ≡ Some peer)
    → (if named then one else others) ≡ Some peer → (if named then one else later) ≡ Some peer
still_by one others later peer true rest is = is
still_by one others later peer false rest is = rest is

pub still_there : (peers : List Peer) (phase : Phase1) (m : Name) (peer : Peer) → peer_of peers m ≡ Some peer
    → peer_of (with_peer peers phase) m ≡ Some peer
still_there [] phase m peer is = absurd (none-some peer is)
still_there (one ∷ peers) phase m peer is =
    still_by (Some one) (peer_of peers m) (peer_of (with_peer peers phase) m) peer (is_named m one) (still_there peers phase m peer) is

phase_by : (found : Option Peer) (phase : Phase1) → option_map (λ (peer : Peer). peer.phase) found ≡ Some phase
    → (peer : Peer) × (found ≡ Some peer) × (peer.phase ≡ phase)
phase_by None phase is = absurd (none-some phase is)
phase_by (Some peer) phase is = (peer, refl, cc (is))

-- and has its SA
pub still_phase : (peers : List Peer) (new : Phase1) (m : Name) (phase : Phase1) → phase_of peers m ≡ Some phase → phase_of (with_peer peers new) m ≡ Some phase
still_phase peers new m phase is =
    let found = phase_by (peer_of peers m) phase is in
    ap (λ (found : Option Peer). option_map (λ (peer : Peer). peer.phase) found) (still_there peers new m found.0 found.1) ∙ ap (λ phase. Some phase) found.2

-- ---- what is seen of who is found

module _ {X : Type 0} (see : Option Peer → X) where
  pick : (one_is two_is : Bool) (one two first second : Option Peer) → one_is ≡ two_is → see one ≡ see two → see first ≡ see second
      → see (if one_is then one else first) ≡ see (if two_is then two else second)
  pick true true one two first second same left right = left
  pick true false one two first second same left right = absurd (false≢true (sym same))
  pick false true one two first second same left right = absurd (false≢true same)
  pick false false one two first second same left right = right

  -- a change is not seen
  pub seen_changed : (change : Peer → Peer) → ((peer : Peer) → (change peer).phase ≡ peer.phase)
      → ((peer : Peer) → see (Some (change peer)) ≡ see (Some peer)) → (peers : List Peer) (name m : Name)
      → see (peer_of (changed change peers name) m) ≡ see (peer_of peers m)
  seen_changed change phases same [] name m = refl
  seen_changed change phases same (peer ∷ peers) name m =
      let one : Peer = if is_named name peer then change peer else peer in
      pick (is_named m one) (is_named m peer) (Some one) (Some peer) (peer_of (changed change peers name) m) (peer_of peers m)
      (ap (λ (phase : Phase1). same_name m phase.member)
      (cond_both (is_named name peer) (change peer) peer (λ (one : Peer). one.phase ≡ peer.phase) (λ is. phases peer) (λ other. refl)))
      (cond_both (is_named name peer) (change peer) peer (λ (one : Peer). see (Some one) ≡ see (Some peer)) (λ is. same peer) (λ other. refl))
      (seen_changed change phases same peers name m)

  -- one more peer is not seen
  pub seen_new : (phase : Phase1) → see (Some (new_peer phase)) ≡ see None → (peers : List Peer) (m : Name)
      → see (peer_of (with_peer peers phase) m) ≡ see (peer_of peers m)
  seen_new phase same [] m =
      cond_both (is_named m (new_peer phase)) (Some (new_peer phase)) None (λ (found : Option Peer). see found ≡ see None) (λ is. same) (λ other. refl)
  seen_new phase same (peer ∷ peers) m =
      pick (is_named m peer) (is_named m peer) (Some peer) (Some peer) (peer_of (with_peer peers phase) m) (peer_of peers m) refl refl
      (seen_new phase same peers m)

  -- where a peer is put, others are found as they were
  seen_others : (after : Peer) (m : Name) → is_named m after ≡ false → (peers : List Peer) → see (peer_of (put peers after) m) ≡ see (peer_of peers m)
  seen_others after m other [] = refl
  seen_others after m other (peer ∷ peers) =
      let later = peer_of (put peers after) m in
      let rest = seen_others after m other peers in
      cond_both (is_named after.phase.member peer) after peer
      (λ (one : Peer). see (if is_named m one then Some one else later) ≡ see (if is_named m peer then Some peer else peer_of peers m))
      (λ same.
      let is : is_named m peer ≡ false = sym (ap (same_name m) (same_name-is after.phase.member peer.phase.member same)) ∙ other in
      ap (λ named. see (if named then Some after else later)) other ∙ rest
      ∙ sym (ap (λ named. see (if named then Some peer else peer_of peers m)) is))
      (λ another. pick (is_named m peer) (is_named m peer) (Some peer) (Some peer) later (peer_of peers m) refl refl rest)

  -- a peer that is put in place of who is found is not seen
  pub seen_put : (peers : List Peer) (name : Name) (peer after : Peer) → peer_of peers name ≡ Some peer → after.phase ≡ peer.phase
      → see (Some after) ≡ see (Some peer) → (m : Name) → see (peer_of (put peers after) m) ≡ see (peer_of peers m)
  seen_put peers name peer after is phase same m =
      let named : name ≡ after.phase.member = found_named peers name peer is ∙ ap (λ (phase : Phase1). phase.member) (sym phase) in
      let here : peer_of peers after.phase.member ≡ Some peer = subst (λ name. peer_of peers name ≡ Some peer) named is in
      elim (cases_Bool (is_named m after)) [
        | inl own ↦
            subst (λ m. see (peer_of (put peers after) m) ≡ see (peer_of peers m)) (sym (same_name-is m after.phase.member own))
            (ap see (put_found after peers (found_peer peers after.phase.member peer here)) ∙ same ∙ sym (ap see here))
        | inr other ↦ seen_others after m other peers
      ]
