-- Peers at their places, and by their names.
use Rattle.std.proofs.Common.{◌≡◌, ℕ, zero, suc, ◌<◌, Bool, true, false, ltb, ◌||◌, List, [], ◌∷◌, ◌++◌, Option, None, Some, Result, Ok, Err, IsOk, OnOk, cond, length, get_or, set, refl, sym, ap, ◌∙◌, subst, arith, inl, inr}
use Rattle.std.specs.Prelude.{slice_get}
use Rattle.std.specs.List.{IsDistinct, find, list_any, position, position_or_len}
use Rattle.std.proofs.lemmas.Bool.{cases_Bool, false≢true, cond-true, cond-false}
use Rattle.std.proofs.lemmas.List.{length-map, map-append}
use Rattle.std.proofs.lemmas.List.Folds.{find_at}
use Rattle.std.proofs.lemmas.List.Quantifiers.{position-Some}
use Rattle.std.proofs.lemmas.Map.Keys.{apart_from_distinct, IsDistinct-tail}
use Rattle.std.proofs.lemmas.Option.{none-some, slice_get-get_or}
use Rattle.group_terms.specs.Names.{Name, same_name}
use Rattle.indexmap.specs.IndexSet.{insert_key}
use Rattle.group_terms.specs.declared.phases.Phase1.{Phase1}
use Rattle.group_peers.specs.declared.members.Peer.{Peer}
use Rattle.group_peers.specs.Peers.{AreOnce, changed, is_named, is_peer, names_of, peer_of, put}
use Rattle.group_peers.specs.Private.Places.{no_peer}
use Rattle.group_peers.proofs.NameLemmas.{any_named, same_name-is, same_name-self}

-- ---- one peer more

pub nobody_once : AreOnce []
unfolding IsDistinct
nobody_once = tt

-- the name of one more goes last
pub name_goes_last : {E : Type 0} (peers : List Peer) (peer : Peer) (old new : List Name) (result : Result Bool E) → old ≡ names_of peers
    → is_peer peers peer.phase.member ≡ false → IsOk result → OnOk result (new ≡ insert_key same_name old peer.phase.member)
    → new ≡ names_of (peers ++ peer ∷ [])
name_goes_last peers peer old new (Ok added) was none ok inserted =
    inserted
    ∙ ap (λ there. cond there old (old ++ peer.phase.member ∷ []))
    (ap (list_any (same_name peer.phase.member)) was ∙ any_named peer.phase.member peers ∙ none)
    ∙ ap (λ names. names ++ peer.phase.member ∷ []) was ∙ sym (map-append (λ (peer : Peer). peer.phase.member) peers (peer ∷ []))
name_goes_last peers peer old new (Err refused) was none ok inserted = absurd (false≢true ok)

-- ---- the peer of a name

pub nobody : (peers : List Peer) (name : Name) → is_peer peers name ≡ false → peer_of peers name ≡ None
nobody [] name none = refl
nobody (peer ∷ peers) name none = elim (cases_Bool (is_named name peer)) [
  | inl here ↦ absurd (false≢true (sym none ∙ ap (λ b. b || list_any (is_named name) peers) here))
  | inr other ↦ cond-false (is_named name peer) (Some peer) (find (is_named name) peers) other
      ∙ nobody peers name (sym (ap (λ b. b || list_any (is_named name) peers) other) ∙ none)
]

-- what is found by a name is at its place
pub found_at : (peers : List Peer) (name : Name) (i : ℕ) → position (is_named name) peers ≡ Some i → peer_of peers name ≡ Some (get_or peers i no_peer)
found_at peers name i is =
    let first = position_or_len (is_named name) peers in
    find_at (is_named name) peers ∙ ap (slice_get peers) (place_is (ltb first (length peers)) first is)
    ∙ slice_get-get_or peers i no_peer (position-Some (is_named name) peers i no_peer is).0
  where
    place_is : (b : Bool) (n : ℕ) → cond b (Some n) None ≡ Some i → n ≡ i
    place_is true n is = ap (or_zero) is
      where
        or_zero : Option ℕ → ℕ
        or_zero None = 0
        or_zero (Some n) = n
    place_is false n is = absurd (none-some i is)

-- ---- one peer changed

name_at : (peers : List Peer) (k : ℕ) → get_or (names_of peers) k [] ≡ (get_or peers k no_peer).phase.member
name_at [] k = refl
name_at (peer ∷ peers) zero = refl
name_at (peer ∷ peers) (suc k) = name_at peers k

-- those after a peer have other names
later_not : (peer : Peer) (peers : List Peer) (name : Name) (k : ℕ) → AreOnce (peer ∷ peers) → k < length peers → is_named name peer ≡ true
    → is_named name (get_or peers k no_peer) ≡ false
later_not peer peers name k once low here =
    ap (λ n. same_name n (get_or peers k no_peer).phase.member) (same_name-is name peer.phase.member here)
    ∙ subst (λ n. same_name peer.phase.member n ≡ false) (name_at peers k)
    (apart_from_distinct same_name (names_of (peer ∷ peers)) 0 (suc k) [] once (omega arith)
    (omega (arith, low, length-map peers (λ (peer : Peer). peer.phase.member))))

module _ (change : Peer → Peer) where
  others_stay : (peers : List Peer) (name : Name) → ((k : ℕ) → k < length peers → is_named name (get_or peers k no_peer) ≡ false)
      → changed change peers name ≡ peers
  others_stay [] name others = refl
  others_stay (peer ∷ peers) name others = λ i.
      cond-false (is_named name peer) (change peer) peer (others 0 (omega arith)) i
      ∷ others_stay peers name (λ k low. others (suc k) (omega (arith, low))) i

  -- at its place
  pub changed_there : (peers : List Peer) (name : Name) (i : ℕ) → AreOnce peers → i < length peers → is_named name (get_or peers i no_peer) ≡ true
      → set peers i (change (get_or peers i no_peer)) ≡ changed change peers name
  changed_there [] name i once low here = absurd (omega (arith, low))
  changed_there (peer ∷ peers) name zero once low here = λ i.
      sym (cond-true (is_named name peer) (change peer) peer here) i
      ∷ sym (others_stay peers name (λ k within. later_not peer peers name k once within here)) i
  changed_there (peer ∷ peers) name (suc i) once low here = elim (cases_Bool (is_named name peer)) [
    | inr other ↦ λ j. sym (cond-false (is_named name peer) (change peer) peer other) j
        ∷ changed_there peers name i (IsDistinct-tail same_name peer.phase.member (names_of peers) once) (omega (arith, low)) here j
    | inl first ↦ absurd (false≢true (sym (later_not peer peers name i once (omega (arith, low)) first) ∙ here))
  ]

  -- nobody has the name
  pub changed_nowhere : (peers : List Peer) (name : Name) → is_peer peers name ≡ false → changed change peers name ≡ peers
  changed_nowhere [] name none = refl
  changed_nowhere (peer ∷ peers) name none = elim (cases_Bool (is_named name peer)) [
    | inl here ↦ absurd (false≢true (sym none ∙ ap (λ b. b || is_peer peers name) here))
    | inr other ↦ λ i. cond-false (is_named name peer) (change peer) peer other i
        ∷ changed_nowhere peers name (sym (ap (λ b. b || is_peer peers name) other) ∙ none) i
  ]

-- another one of that name is put there
pub put_there : (peers : List Peer) (i : ℕ) (after : Peer) → AreOnce peers → i < length peers → after.phase ≡ (get_or peers i no_peer).phase
    → set peers i after ≡ put peers after
put_there peers i after once low same =
    changed_there (λ _. after) peers after.phase.member i once low
    (ap (λ (phase : Phase1). same_name after.phase.member phase.member) (sym same) ∙ same_name-self after.phase.member)

-- the names stay
pub names_stay : (peers : List Peer) (i : ℕ) (after : Peer) → after.phase ≡ (get_or peers i no_peer).phase → names_of (set peers i after) ≡ names_of peers
names_stay [] i after same = refl
names_stay (peer ∷ peers) zero after same = λ j. (same j).member ∷ names_of peers
names_stay (peer ∷ peers) (suc i) after same = λ j. peer.phase.member ∷ names_stay peers i after same j

-- where it is the one that was there, nothing changes
pub same_there : (peers : List Peer) (i : ℕ) (after : Peer) → after ≡ get_or peers i no_peer → set peers i after ≡ peers
same_there [] i after same = refl
same_there (peer ∷ peers) zero after same = λ j. same j ∷ peers
same_there (peer ∷ peers) (suc i) after same = λ j. peer ∷ same_there peers i after same j
