-- Who is a peer once a member was noted.
use Rattle.std.proofs.Common.{◌≡◌, Bool, true, false, cond, ◌||◌, List, [], ◌∷◌, ◌++◌, Option, None, Some, refl, ap, ◌∙◌}
use Rattle.std.specs.Prelude.{option_and_then}
use Rattle.std.specs.List.{find, list_any}
use Rattle.std.specs.Option.{option_or}
use Rattle.std.proofs.lemmas.List.Folds.{find-append}
use Rattle.group_terms.specs.Names.{Name, same_name}
use Rattle.group_terms.specs.declared.phases.Phase1.{Phase1}
use Rattle.group_peers.specs.declared.members.Peer.{Peer}
use Rattle.group_peers.specs.Peers.{is_named, is_peer, new_peer, store_of, with_peer}
use Rattle.group_peers.proofs.NameLemmas.{same_name-self}

any_more : (p : Peer → Bool) (peers : List Peer) (peer : Peer) → list_any p (peers ++ peer ∷ []) ≡ (p peer || list_any p peers)
any_more p [] peer = refl
any_more p (first ∷ peers) peer = ap (λ b. p first || b) (any_more p peers peer) ∙ turned (p first) (p peer) (list_any p peers)
  where
    turned : (a b c : Bool) → (a || (b || c)) ≡ (b || (a || c))
    turned true true c = refl
    turned true false c = refl
    turned false b c = refl

pub peers_noted : (peers : List Peer) (phase : Phase1) (other : Name)
    → is_peer (with_peer peers phase) other ≡ (same_name other phase.member || is_peer peers other)
peers_noted peers phase other = any_more (is_named other) peers (new_peer phase)

pub itself_noted : (peers : List Peer) (phase : Phase1) → is_peer (with_peer peers phase) phase.member ≡ true
itself_noted peers phase = peers_noted peers phase phase.member ∙ ap (λ b. b || is_peer peers phase.member) (same_name-self phase.member)

no_store_more : (phase : Phase1) (found : Option Peer) (b : Bool)
    → option_and_then (λ (peer : Peer). peer.store) (option_or found (cond b (Some (new_peer phase)) None))
    ≡ option_and_then (λ (peer : Peer). peer.store) found
no_store_more phase (Some peer) b = refl
no_store_more phase None true = refl
no_store_more phase None false = refl

pub stores_noted : (peers : List Peer) (phase : Phase1) (other : Name) → store_of (with_peer peers phase) other ≡ store_of peers other
stores_noted peers phase other =
    ap (option_and_then (λ (peer : Peer). peer.store)) (find-append (is_named other) peers (new_peer phase ∷ []))
    ∙ no_store_more phase (find (is_named other) peers) (same_name other phase.member)
