-- Peers by their names: what stays of them where some of them change.
use Rattle.std.proofs.Common.{◌≡◌, ◌∙◌, ◌||◌, Bool, true, false, cond, List, [], ◌∷◌, Option, None, Some, map, refl, sym, ap, subst, inl, inr}
use Rattle.std.specs.Prelude.{All, if◌then◌else◌, option_and_then}
use Rattle.std.specs.List.{find, list_any}
use Rattle.std.specs.Option.{option_map, option_or}
use Rattle.std.specs.Cmp.Lexicographic.{nat_list_eq_equiv}
use Rattle.std.proofs.lemmas.Bool.{cases_Bool, cond-true, cond-false, false≢true}
use Rattle.std.proofs.lemmas.List.Elements.{All-head, All-tail}
use Rattle.std.proofs.lemmas.List.Folds.{find-append}
use Rattle.std.proofs.lemmas.Slice.Eq.{bytes_eq-Decides}
use Rattle.group_terms.specs.Names.{Name, same_name}
use Rattle.group_terms.specs.declared.phases.Phase1.{Phase1}
use Rattle.group_peers.specs.Peers.{changed, is_named, new_peer, peer_of, phase_of, put, with_peer}
use Rattle.group_peers.specs.declared.members.Peer.{Peer}

-- ---- names

pub name_is : (a b : Name) → same_name a b ≡ true → a ≡ b
name_is a b same = (bytes_eq-Decides a b).0 same

pub name_self : (a : Name) → same_name a a ≡ true
name_self a = nat_list_eq_equiv.refl a

pub only : {X : Type 0} {a b : X} → Some a ≡ Some b → a ≡ b
only e = cc

-- ---- what is found in a list

module _ {X : Type 0} (p : X → Bool) where
  pub found_has : (P : X → Type 0) (items : List X) (item : X) → All P items → find p items ≡ Some item → P item
  found_has P [] item all is = absurd (cc)
  found_has P (first ∷ items) item all is = elim (cases_Bool (p first)) [
    | inl here ↦ subst P (only (sym (cond-true (p first) (Some first) (find p items) here) ∙ is)) (All-head P first items all)
    | inr other ↦ found_has P items item (All-tail P first items all) (sym (cond-false (p first) (Some first) (find p items) other) ∙ is)
  ]

  pub found_passes : (items : List X) (item : X) → find p items ≡ Some item → p item ≡ true
  found_passes [] item is = absurd (cc)
  found_passes (first ∷ items) item is = elim (cases_Bool (p first)) [
    | inl here ↦ subst (λ one. p one ≡ true) (only (sym (cond-true (p first) (Some first) (find p items) here) ∙ is)) here
    | inr other ↦ found_passes items item (sym (cond-false (p first) (Some first) (find p items) other) ∙ is)
  ]

  pub none_found : (items : List X) → list_any p items ≡ false → find p items ≡ None
  none_found [] none = refl
  none_found (first ∷ items) none = elim (cases_Bool (p first)) [
    | inl here ↦ absurd (false≢true (sym none ∙ ap (λ b. b || list_any p items) here))
    | inr other ↦ cond-false (p first) (Some first) (find p items) other ∙ none_found items (sym (ap (λ b. b || list_any p items) other) ∙ none)
  ]

  -- what is found once items changed that passed as before
  pub find_changed : (f : X → X) → ((item : X) → p (f item) ≡ p item) → (items : List X) → find p (map f items) ≡ option_map f (find p items)
  find_changed f same [] = refl
  find_changed f same (first ∷ items) =
      ap (λ b. cond b (Some (f first)) (find p (map f items))) (same first)
      ∙ ap (cond (p first) (Some (f first))) (find_changed f same items) ∙ either (p first)
    where
      either : (b : Bool) → cond b (Some (f first)) (option_map f (find p items)) ≡ option_map f (cond b (Some first) (find p items))
      either true = refl
      either false = refl

-- what is said of an item that is found, where that did not change
pub maps_same : {X A : Type 0} (F : X → A) (f : X → X) (item : Option X) → ((one : X) → item ≡ Some one → F (f one) ≡ F one)
    → option_map F (option_map f item) ≡ option_map F item
maps_same F f None same = refl
maps_same F f (Some one) same = ap Some (same one refl)

-- ---- peers

-- the SA of a peer, and whether it was introduced
pub record Mark : Type 0 where
  pub phase : Phase1
  pub introduced : Bool

abbrev pub mark_of : Peer → Mark
mark_of peer = record { phase = peer.phase; introduced = peer.introduced }

abbrev pub mark_at : List Peer → Name → Option Mark
mark_at peers m = option_map mark_of (peer_of peers m)

-- its SA, where it was introduced
abbrev pub given_by : Mark → Option Phase1
given_by mark = if mark.introduced then Some mark.phase else None

abbrev pub given_at : List Peer → Name → Option Phase1
given_at peers m = option_and_then given_by (mark_at peers m)

-- of each name there is the same peer, as far as its SA and its introduction go
abbrev pub HaveSameMarks : List Peer → List Peer → Type 0
HaveSameMarks old new = (m : Name) → mark_at new m ≡ mark_at old m

pub marks_changed : (f : Peer → Peer) → ((name : Name) (peer : Peer) → is_named name (f peer) ≡ is_named name peer) → (peers : List Peer)
    → ((m : Name) (peer : Peer) → peer_of peers m ≡ Some peer → mark_of (f peer) ≡ mark_of peer) → HaveSameMarks peers (map f peers)
marks_changed f named peers same m =
    ap (option_map mark_of) (find_changed (is_named m) f (named m) peers) ∙ maps_same mark_of f (peer_of peers m) (same m)

-- ---- one peer in place of another

module _ (peers : List Peer) (n : Name) (peer after : Peer) (there : peer_of peers n ≡ Some peer) (same : mark_of after ≡ mark_of peer) where
  abbrev in_place : Peer → Peer
  in_place other = if is_named after.phase.member other then after else other

  put_named : (name : Name) (other : Peer) → is_named name (in_place other) ≡ is_named name other
  put_named name other = elim (cases_Bool (is_named after.phase.member other)) [
    | inl its ↦
        ap (is_named name) (cond-true (is_named after.phase.member other) after other its)
        ∙ ap (same_name name) (name_is after.phase.member other.phase.member its)
    | inr differs ↦ ap (is_named name) (cond-false (is_named after.phase.member other) after other differs)
  ]

  -- its name is that by which it was found
  called : n ≡ after.phase.member
  called = name_is n peer.phase.member (found_passes (is_named n) peers peer there) ∙ sym (ap (λ (mark : Mark). mark.phase.member) same)

  put_mark : (m : Name) (other : Peer) → peer_of peers m ≡ Some other → mark_of (in_place other) ≡ mark_of other
  put_mark m other is = elim (cases_Bool (is_named after.phase.member other)) [
    | inl its ↦
        let name : m ≡ n = name_is m other.phase.member (found_passes (is_named m) peers other is)
        ∙ sym (name_is after.phase.member other.phase.member its) ∙ sym called in
        let one : other ≡ peer = only (sym is ∙ ap (peer_of peers) name ∙ there) in
        ap mark_of (cond-true (is_named after.phase.member other) after other its) ∙ same ∙ sym (ap mark_of one)
    | inr differs ↦ ap mark_of (cond-false (is_named after.phase.member other) after other differs)
  ]

  pub put_marks : HaveSameMarks peers (put peers after)
  put_marks = marks_changed in_place put_named peers put_mark

-- ---- a change of a peer that leaves its SA

module _ (change : Peer → Peer) (phase : (peer : Peer) → (change peer).phase ≡ peer.phase) (n : Name) where
  abbrev where_named : Peer → Peer
  where_named peer = if is_named n peer then change peer else peer

  still_phase : (peer : Peer) → (where_named peer).phase ≡ peer.phase
  still_phase peer = elim (cases_Bool (is_named n peer)) [
    | inl its ↦ ap (λ (peer : Peer). peer.phase) (cond-true (is_named n peer) (change peer) peer its) ∙ phase peer
    | inr other ↦ ap (λ (peer : Peer). peer.phase) (cond-false (is_named n peer) (change peer) peer other)
  ]

  pub changed_named : (name : Name) (peer : Peer) → is_named name (where_named peer) ≡ is_named name peer
  changed_named name peer = ap (λ (phase : Phase1). same_name name phase.member) (still_phase peer)

  pub changed_peer : (peers : List Peer) (m : Name) → peer_of (changed change peers n) m ≡ option_map where_named (peer_of peers m)
  changed_peer peers m = find_changed (is_named m) where_named (changed_named m) peers

  pub changed_marks : ((peer : Peer) → (change peer).introduced ≡ peer.introduced) → (peers : List Peer) → HaveSameMarks peers (changed change peers n)
  changed_marks introduced peers = marks_changed where_named changed_named peers each
    where
      each : (m : Name) (peer : Peer) → peer_of peers m ≡ Some peer → mark_of (where_named peer) ≡ mark_of peer
      each m peer is = elim (cases_Bool (is_named n peer)) [
        | inl its ↦
            let one = phase peer in
            let other = introduced peer in
            ap mark_of (cond-true (is_named n peer) (change peer) peer its) ∙ (λ i. record { phase = one i; introduced = other i })
        | inr differs ↦ ap mark_of (cond-false (is_named n peer) (change peer) peer differs)
      ]

  -- the SA of each name is the same
  pub changed_phases : (peers : List Peer) (m : Name) → phase_of (changed change peers n) m ≡ phase_of peers m
  changed_phases peers m =
      ap (option_map (λ (peer : Peer). peer.phase)) (changed_peer peers m)
      ∙ maps_same (λ (peer : Peer). peer.phase) where_named (peer_of peers m) (λ peer is. still_phase peer)

-- ---- the SA of a name, by its mark

pub phase_marked : (peers : List Peer) (m : Name) → phase_of peers m ≡ option_map (λ (mark : Mark). mark.phase) (mark_at peers m)
phase_marked peers m = by_peer (peer_of peers m)
  where
    by_peer : (peer : Option Peer)
        → option_map (λ (peer : Peer). peer.phase) peer ≡ option_map (λ (mark : Mark). mark.phase) (option_map mark_of peer)
    by_peer None = refl
    by_peer (Some peer) = refl

pub same_phases : (old new : List Peer) → HaveSameMarks old new → (m : Name) → phase_of new m ≡ phase_of old m
same_phases old new same m =
    phase_marked new m ∙ ap (option_map (λ (mark : Mark). mark.phase)) (same m) ∙ sym (phase_marked old m)

-- ---- one peer more

module _ (peers : List Peer) (phase : Phase1) where
  later_peer : (m : Name) → peer_of (with_peer peers phase) m ≡ option_or (peer_of peers m) (peer_of (new_peer phase ∷ []) m)
  later_peer m = find-append (is_named m) peers (new_peer phase ∷ [])

  pub more_given : (m : Name) → given_at (with_peer peers phase) m ≡ given_at peers m
  more_given m = ap (λ peer. option_and_then given_by (option_map mark_of peer)) (later_peer m) ∙ by_peer (peer_of peers m)
    where
      by_new : (b : Bool) → option_and_then given_by (option_map mark_of (cond b (Some (new_peer phase)) None)) ≡ None
      by_new true = refl
      by_new false = refl

      by_peer : (peer : Option Peer)
          → option_and_then given_by (option_map mark_of (option_or peer (peer_of (new_peer phase ∷ []) m)))
          ≡ option_and_then given_by (option_map mark_of peer)
      by_peer None = by_new (is_named m (new_peer phase))
      by_peer (Some peer) = refl

  pub more_phases : (m : Name) (its : Phase1) → phase_of peers m ≡ Some its → phase_of (with_peer peers phase) m ≡ Some its
  more_phases m its = by_peer (peer_of peers m) (later_peer m)
    where
      by_peer : (peer : Option Peer) → peer_of (with_peer peers phase) m ≡ option_or peer (peer_of (new_peer phase ∷ []) m)
          → option_map (λ (peer : Peer). peer.phase) peer ≡ Some its → phase_of (with_peer peers phase) m ≡ Some its
      by_peer None later is = absurd (cc)
      by_peer (Some peer) later is = ap (option_map (λ (peer : Peer). peer.phase)) later ∙ is
