-- Peers that are found by their names.
use Rattle.std.proofs.Common.{◌≡◌, Bool, true, false, cond, ◌||◌, List, [], ◌∷◌, Option, None, Some, refl, sym, ap, ◌∙◌, inl, inr}
use Rattle.std.specs.Prelude.{option_map, unwrap_or}
use Rattle.std.specs.Cmp.Lexicographic.{nat_list_eq_equiv}
use Rattle.std.proofs.lemmas.Bool.{cases_Bool, false≢true, cond-true, cond-false}
use Rattle.std.proofs.lemmas.Option.{none-some, same_Some}
use Rattle.std.proofs.lemmas.Slice.Eq.{bytes_eq-Decides}
use Rattle.group_terms.specs.Names.{Name, same_name}
use Rattle.group_terms.specs.declared.phases.Phase1.{Phase1}
use Rattle.group_peers.specs.declared.members.Peer.{Peer}
use Rattle.group_peers.specs.Peers.{is_named, is_peer, peer_of, phase_of, put, with_peer}

same_name-self : (m : Name) → same_name m m ≡ true
same_name-self m = nat_list_eq_equiv.refl m

-- ---- what is known of who is found

pub flagged : (field : Peer → Bool) (found : Option Peer) → unwrap_or (option_map field found) false ≡ true
    → (peer : Peer) × (found ≡ Some peer) × (field peer ≡ true)
flagged field None is = absurd (false≢true is)
flagged field (Some peer) is = (peer, refl, is)

pub unflagged : (field : Peer → Bool) (found : Option Peer) (peer : Peer) (b : Bool) → found ≡ Some peer → unwrap_or (option_map field found) false ≡ b
    → field peer ≡ b
unflagged field found peer b is was = sym (ap (λ found. unwrap_or (option_map field found) false) is) ∙ was

pub found_is_peer : (peers : List Peer) (m : Name) (peer : Peer) → peer_of peers m ≡ Some peer → is_peer peers m ≡ true
found_is_peer [] m peer is = absurd (none-some peer is)
found_is_peer (first ∷ peers) m peer is = elim (cases_Bool (is_named m first)) [
  | inl here ↦ ap (λ b. b || is_peer peers m) here
  | inr other ↦ ap (λ b. b || is_peer peers m) other
      ∙ found_is_peer peers m peer (sym (cond-false (is_named m first) (Some first) (peer_of peers m) other) ∙ is)
]

pub found_named : (peers : List Peer) (m : Name) (peer : Peer) → peer_of peers m ≡ Some peer → is_named m peer ≡ true
found_named [] m peer is = absurd (none-some peer is)
found_named (first ∷ peers) m peer is = elim (cases_Bool (is_named m first)) [
  | inl here ↦ ap (is_named m) (sym (same_Some first peer (sym (cond-true (is_named m first) (Some first) (peer_of peers m) here) ∙ is))) ∙ here
  | inr other ↦ found_named peers m peer (sym (cond-false (is_named m first) (Some first) (peer_of peers m) other) ∙ is)
]

-- ---- who is put in place of another is found

put_found : (peers : List Peer) (after peer : Peer) → peer_of peers after.phase.member ≡ Some peer → peer_of (put peers after) after.phase.member ≡ Some after
put_found [] after peer is = absurd (none-some peer is)
put_found (first ∷ peers) after peer is =
    let m = after.phase.member in
    let rest = peer_of (put peers after) m in
    elim (cases_Bool (is_named m first)) [
      | inl here ↦ ap (λ (head : Peer). cond (is_named m head) (Some head) rest) (cond-true (is_named m first) after first here)
          ∙ cond-true (is_named m after) (Some after) rest (same_name-self m)
      | inr other ↦ ap (λ (head : Peer). cond (is_named m head) (Some head) rest) (cond-false (is_named m first) after first other)
          ∙ cond-false (is_named m first) (Some first) rest other
          ∙ put_found peers after peer (sym (cond-false (is_named m first) (Some first) (peer_of peers m) other) ∙ is)
    ]

pub peer_put : (peers : List Peer) (m : Name) (after peer : Peer) → peer_of peers m ≡ Some peer → after.phase ≡ peer.phase
    → peer_of (put peers after) m ≡ Some after
peer_put peers m after peer is same =
    let named : m ≡ after.phase.member =
    (bytes_eq-Decides m peer.phase.member).0 (found_named peers m peer is) ∙ ap (λ (phase : Phase1). phase.member) (sym same) in
    ap (peer_of (put peers after)) named ∙ put_found peers after peer (ap (peer_of peers) (sym named) ∙ is)

-- ---- who is noted is found

pub noted_found : (peers : List Peer) (phase : Phase1) → is_peer peers phase.member ≡ false → phase_of (with_peer peers phase) phase.member ≡ Some phase
noted_found [] phase none =
    ap (option_map (λ (peer : Peer). peer.phase)) (cond-true (same_name phase.member phase.member) _ None (same_name-self phase.member))
noted_found (first ∷ peers) phase none = elim (cases_Bool (is_named phase.member first)) [
  | inl here ↦ absurd (false≢true (sym none ∙ ap (λ b. b || is_peer peers phase.member) here))
  | inr other ↦
      ap (option_map (λ (peer : Peer). peer.phase)) (cond-false (is_named phase.member first) (Some first) (peer_of (with_peer peers phase) phase.member) other)
      ∙ noted_found peers phase (sym (ap (λ b. b || is_peer peers phase.member) other) ∙ none)
]
